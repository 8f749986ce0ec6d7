-- What `trim` writes: the kept acts of a valid plan, its end, and how many were dropped; or the verdict on a plan that is refused; or
-- one line that says why nothing is judged.
use Rattle.std.specs.Prelude.{◌≡◌, ◌≢◌, ℕ, ◌-◌, ◌<◌, ◌≤◌, List, ◌++◌, length, map, codes, decimal}
use Rattle.plus_fraction.specs.Fraction.{Fraction}
use Rattle.plus_model.specs.Terms as terms
use Rattle.plus_model.specs.Plan as model
use Rattle.plus_number.specs.Frac.{IsFrac64}
use Rattle.plus_tree.specs.declared.trees.Domain.{Domain}
use Rattle.plus_tree.specs.declared.trees.Problem.{Problem}
use Rattle.plus_expansion.specs.Expansion.{expanded}
use Rattle.plus_report.specs.declared.refusals.Early.{Early}
use Rattle.plus_report.specs.declared.status.Status.{Status}
use Rattle.plus_report.specs.declared.status.Status.TheVariants as s
use Rattle.plus_report.specs.Plans.{Timed, plan_text}
use Rattle.plus_report.specs.Refusals.{early_text}
use Rattle.plus_report.specs.Text.{newline}
use Rattle.plus_reply.specs.Pair.Pair.{PairRefused, SpellsWellTyped}
use Rattle.plus_reply.specs.Statuses.{early_status}
use Rattle.plus_trim.specs.Acts.{Act, chosen}
use Rattle.plus_trim.specs.Trimmed.{IsKept}
use Rattle.plus_trim_command.specs.Acts.{act_count, acts_in, last_time}
use Rattle.plus_validator.specs.declared.judge.Judged.{Judged}
use Rattle.plus_validator.specs.declared.judge.Outcome.TheVariants as outcomes
use Rattle.plus_validator.specs.Accepted.{IsAccepted}
use Rattle.plus_validator.specs.Outcomes.{outcome_of, status_of}
use Rattle.plus_validator.specs.Plans.{pair, lines_meant}
use Rattle.plus_validator.specs.Verdicts.{JudgesText}
use Rattle.plus_words.specs.Numbers.{default_happenings}

-- the most actions of a plan that is trimmed
abbrev pub most_acts : ℕ
most_acts = 200

abbrev pub many_line : List ℕ
many_line = codes "beyond: more than 200 plan actions\n"

-- the acts by their labels
abbrev pub labelled : List Act → List Timed
labelled acts = map (λ (a : Act). (a.0, a.1.label)) acts

-- `; dropped D, beyond B`
abbrev pub note_text : ℕ → ℕ → List ℕ
note_text dropped beyond = codes "; dropped " ++ (decimal dropped ++ (codes ", beyond " ++ (decimal beyond ++ newline)))

-- the acts at these places and the end; how many acts are dropped; and in how many cases it is a limit that stands where one more is
abbrev pub trimmed_text : List Act → Fraction → List ℕ → ℕ → List ℕ
trimmed_text acts last places beyond = plan_text (labelled (chosen acts places)) last ++ note_text (length acts - length places) beyond

-- What is written of an accepted plan: that it has too many actions; or what is kept of them, by a definition that says of which there
-- may be several: the acts are valid with the end, and no single one can go.
pub data TrimsPlan (P : terms.Problem) (lines : List model.Line) (status : Status) (written : List ℕ) : Type 0 where
  many : most_acts < act_count lines → status ≡ s.Beyond → written ≡ many_line → TrimsPlan P lines status written
  kept :
      (places : List ℕ) (beyond : ℕ) → act_count lines ≤ most_acts
      → IsKept IsFrac64 P default_happenings (acts_in lines) (last_time lines) places beyond → status ≡ s.Valid
      → written ≡ trimmed_text (acts_in lines) (last_time lines) places beyond → TrimsPlan P lines status written

-- What is written of a well-typed pair and a plan of it: the verdict on it where it is refused, or what is written of its lines where
-- it is accepted.
pub data TrimsPair (d : Domain) (p : Problem) (plan : List ℕ) (status : Status) (written : List ℕ) : Type 0 where
  refused :
      (j : Judged) → JudgesText d p default_happenings plan j → outcome_of j.verdict ≢ outcomes.Valid
      → status ≡ status_of (outcome_of j.verdict) → written ≡ j.line.items → TrimsPair d p plan status written
  accepted :
      (bytes : List ℕ) (a : IsAccepted d p default_happenings plan bytes)
      → TrimsPlan (expanded d p) (lines_meant (pair d p) a.lines) status written → TrimsPair d p plan status written

-- What is written of three texts: the line that says why the first two spell no well-typed pair, or what is written of the pair
-- that they spell and of the plan.
pub data Trims (domain problem plan : List ℕ) (status : Status) (written : List ℕ) : Type 0 where
  no_pair : (e : Early) → PairRefused domain problem e → status ≡ early_status e → written ≡ early_text e
      → Trims domain problem plan status written
  of_pair : (d : Domain) (p : Problem) → SpellsWellTyped domain problem d p → TrimsPair d p plan status written
      → Trims domain problem plan status written
