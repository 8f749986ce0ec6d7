-- What `watch` writes of a ground pair, constraints and a plan text, with its status.
use Rattle.std.specs.Prelude.{◌≡◌, ℕ, suc, Bool, true, false, List, [], ◌++◌, Option, if◌then◌else◌}
use Rattle.plus_number.specs.Frac.{fraction_of, IsFrac64}
use Rattle.plus_number.specs.declared.frac.Frac64.{Frac64}
use Rattle.plus_tree.specs.declared.trees.Constraint as written
use Rattle.plus_tree.specs.declared.trees.Domain.{Domain}
use Rattle.plus_tree.specs.declared.trees.Problem.{Problem}
use Rattle.plus_expansion.specs.Counting.{most_nodes}
use Rattle.plus_report.specs.Refusals.{early_text}
use Rattle.plus_report.specs.declared.refusals.Early as early
use Rattle.plus_report.specs.declared.refusals.Early.TheVariants.{BadText, TooMany, Literal as NoValue}
use Rattle.plus_report.specs.declared.refusals.Kinds.TheVariants as kinds
use Rattle.plus_report.specs.declared.refusals.Text.TheVariants as texts
use Rattle.plus_report.specs.declared.status.Status.{Status}
use Rattle.plus_report.specs.declared.status.Status.TheVariants as s
use Rattle.plus_report.specs.declared.verdicts.Verdict.{Verdict}
use Rattle.plus_report.specs.declared.verdicts.Verdict.TheVariants as verdicts
use Rattle.plus_constraints.specs.Constraint.{Constraint}
use Rattle.plus_constraints.specs.Place.{Place}
use Rattle.plus_rules.specs.declared.faults.WatchFault.{WatchFault}
use Rattle.plus_rules.specs.declared.faults.WatchFault.TheVariants.{At, TooManyNodes, Literal, Memory}
use Rattle.plus_rules.specs.Refusals.{AreSound, RefusesConstraints}
use Rattle.plus_rules.specs.Written.{constraints_meant}
use Rattle.plus_watch.specs.Watched.{places_of}
use Rattle.plus_watch_lines.specs.Lines.{found_lines, all_held, limit_line}
use Rattle.plus_validator.specs.Outcomes.{outcome_of, status_of}
use Rattle.plus_watcher.specs.declared.watcher.Standing.{Standing}
use Rattle.plus_watcher.specs.declared.watcher.Standing.TheVariants.{Going, Limit, Lost}
use Rattle.plus_watching.specs.declared.findings.Findings.{Findings}
use Rattle.plus_watching.specs.Watches.{WatchesText}
use Rattle.plus_reply.specs.declared.pair.pair.Refusal.{Refusal}
use Rattle.plus_reply.specs.declared.pair.pair.Refusal.TheVariants.{Early, NoMemory}
use Rattle.plus_reply.specs.Pair.Pair.{word_of}
use Rattle.plus_reply.specs.Statuses.{early_status}

-- ---- a plan that was watched

abbrev pub is_valid : Verdict Frac64 → Bool
is_valid verdicts.Valid = true
is_valid (verdicts.Invalid b) = false
is_valid (verdicts.Beyond l) = false
is_valid (verdicts.Other e) = false

-- the line of the verdict, and behind `valid` a line for each constraint; or that of the limit of a constraint that came first
abbrev pub text_by : List Constraint → Findings → Standing → List ℕ
text_by cs f Going = f.judged.line.items ++ (if is_valid f.judged.verdict then found_lines cs (places_of fraction_of f.firsts.items) else [])
text_by cs f (Limit index stop) = limit_line (suc index) stop
text_by cs f Lost = []

-- a valid plan has the status of one only where all constraints hold
abbrev pub valid_status : List Constraint → List (Option Place) → Status
valid_status cs os = if all_held cs os then s.Valid else s.Invalid

abbrev pub status_by : List Constraint → Findings → Standing → Status
status_by cs f Going =
    if is_valid f.judged.verdict then valid_status cs (places_of fraction_of f.firsts.items) else status_of (outcome_of f.judged.verdict)
status_by cs f (Limit index stop) = s.Beyond
status_by cs f Lost = s.NoMemory

-- what is written of the plan text that stands in these bytes, where it is played while these constraints are watched
pub record TellsPlan (d : Domain) (p : Problem) (cs : List Constraint) (most : ℕ) (bytes : List ℕ) (status : Status) (written : List ℕ) : Type 0 where
  pub findings : Findings
  pub watched : WatchesText d p cs most bytes findings
  pub status_is : status ≡ status_by cs findings findings.standing
  pub written_is : written ≡ text_by cs findings findings.standing

-- ---- constraints that are refused

-- a refusal of a form, in the text of constraints
abbrev pub named : Refusal → Refusal
named (Early (BadText text start finish word)) = Early (BadText texts.Constraints start finish word)
named refusal = refusal

-- beside a pair that is not
abbrev pub watch_refusal : WatchFault → Refusal
watch_refusal (At wrong span) = Early (BadText texts.Constraints span.start span.«end» (word_of wrong))
watch_refusal TooManyNodes = Early (TooMany kinds.NodesInConstraints most_nodes)
watch_refusal (Literal span) = Early (NoValue texts.Constraints span.start span.«end»)
watch_refusal Memory = NoMemory

-- ---- both

-- what is written of constraints beside a ground pair: the line that says why they are refused; or what is written of the plan
pub data TellsRules (d : Domain) (p : Problem) (rules : List written.Constraint) (most : ℕ) (bytes : List ℕ) (status : Status) (written : List ℕ) : Type 0 where
  refused :
      (fault : WatchFault) (e : early.Early) → RefusesConstraints IsFrac64 d p rules fault → watch_refusal fault ≡ Early e → status ≡ early_status e
      → written ≡ early_text e → TellsRules d p rules most bytes status written
  played : AreSound IsFrac64 d p rules → TellsPlan d p (constraints_meant d p rules) most bytes status written → TellsRules d p rules most bytes status written
