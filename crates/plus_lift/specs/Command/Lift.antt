-- What `lift` writes: the timed plan that an untimed plan of the translation stands for, and the verdict on it; or one line that
-- says why there is none.
use Rattle.std.specs.Prelude.{◌≡◌, ℕ, true, List, ◌++◌, Result, Ok, Err, codes, pos}
use Rattle.plus_fraction.specs.Fraction.{Fraction, whole}
use Rattle.plus_number.specs.declared.frac.Frac64.{Frac64}
use Rattle.plus_tree.specs.declared.trees.Domain.{Domain}
use Rattle.plus_tree.specs.declared.trees.Problem.{Problem}
use Rattle.plus_tree.specs.declared.trees.Call.{Call}
use Rattle.plus_state.specs.declared.outcome.TimedPlan.{TimedPlan}
use Rattle.plus_report.specs.declared.refusals.Early.{Early}
use Rattle.plus_report.specs.Refusals.{early_text}
use Rattle.plus_report.specs.Text.{newline, fraction_text}
use Rattle.plus_report.specs.Plans.{plan_text}
use Rattle.plus_steps.specs.Stepped.{timed}
use Rattle.plus_translation.specs.Laws.{stripped}
use Rattle.plus_numeric.specs.declared.answer.Kind.{Kind}
use Rattle.plus_numeric.specs.declared.answer.Stop.{Stop}
use Rattle.plus_numeric.specs.declared.answer.Stop.TheVariants as stops
use Rattle.plus_numeric.specs.declared.source.Source.TheVariants.{Translated}
use Rattle.plus_numeric.specs.Answers.{IsAccepted, IsRefused}
use Rattle.plus_lift.specs.Lifts.{names_of, labelled, counts, IsLifted, IsFirstLate}
use Rattle.plus_validator.specs.declared.judge.Judged.{Judged}
use Rattle.plus_validator.specs.Outcomes.{outcome_of, status_of}
use Rattle.plus_validator.specs.Verdicts.{JudgesText}
use Rattle.plus_words.specs.Numbers.{default_happenings}
use Rattle.plus_reply.specs.Pair.Pair.{PairRefused, SpellsWellTyped}
use Rattle.plus_report.specs.declared.status.Status.{Status}
use Rattle.plus_report.specs.declared.status.Status.TheVariants as s
use Rattle.plus_reply.specs.declared.reply.Reply.{Reply}
use Rattle.plus_reply.specs.declared.reply.Fault.{Fault}
use Rattle.plus_reply.specs.declared.reply.Fault.TheVariants as faults
use Rattle.plus_reply.specs.Statuses.{early_status}
use Rattle.plus_numeric.specs.Verdicts.{kind_status}
use Rattle.plus_lift.specs.Command.Again.{SpellsAgain, NotAgain}

-- ---- times

-- `beyond: number N * Q`
abbrev pub late_line : Fraction → ℕ → List ℕ
late_line q count = codes "beyond: number " ++ (fraction_text (whole (pos count)) ++ codes " * " ++ (fraction_text q ++ newline))

-- the lines of the timed plan that calls stand for: rounds of events are dropped, and each action has the time of the steps before it
abbrev pub lifted_text : Fraction → List Call → List ℕ
lifted_text q calls =
    let plan = timed q (stripped (names_of calls)) in
    plan_text (labelled plan.0) plan.1

-- What is written of the calls of a plan of the translation: their timed plan, and the verdict of a check on it, on one line
-- behind `; `; or the line on the first time that is no value.
pub data LiftsCalls (q : Fraction) (d : Domain) (p : Problem) (calls : List Call) (status : Status) (written : List ℕ) : Type 0 where
  late : (count : ℕ) → IsFirstLate q (counts 0 (stripped (names_of calls))) count → status ≡ s.Beyond → written ≡ late_line q count
      → LiftsCalls q d p calls status written
  judged : (plan : TimedPlan Frac64) (j : Judged) → IsLifted q calls plan → JudgesText d p default_happenings (lifted_text q calls) j
      → status ≡ status_of (outcome_of j.verdict) → written ≡ lifted_text q calls ++ (codes "; " ++ j.line.items)
      → LiftsCalls q d p calls status written

-- the text of a timed plan, and the verdict on it, with its status
pub record JudgesPlan (d : Domain) (p : Problem) (text : List ℕ) (r : Reply) : Type 0 where
  pub j : Judged
  pub judged : JudgesText d p default_happenings text j
  pub status_is : r.status ≡ status_of (outcome_of j.verdict)
  pub text_is : r.text.items ≡ text ++ (codes "; " ++ j.line.items)

-- ---- the untimed plan

-- a refusal of the untimed plan is told in its one line
abbrev pub TellsStop : Stop → Result Reply Fault → Type 0
TellsStop (stops.Refused x) (Ok r) = (r.status ≡ kind_status x.kind) × (r.text.items ≡ x.line.items)
TellsStop (stops.Refused x) (Err f) = ⊥
TellsStop stops.ReadFault r = r ≡ Err faults.ReadFault
TellsStop stops.NoMemory r = r ≡ Err faults.NoMemory

-- What is written of a plan of the pair (d', p') that the printed translation of (d, p) spells: the line that refuses it, or what
-- its calls stand for.
pub data LiftsPlan (q : Fraction) (d : Domain) (p : Problem) (d' : Domain) (p' : Problem) (plan : List ℕ) (status : Status) (written : List ℕ) : Type 0 where
  no_plan : (kind : Kind) → IsRefused Translated d' p' plan kind written → status ≡ kind_status kind
      → LiftsPlan q d p d' p' plan status written
  lifts : (calls : List Call) → IsAccepted d' p' plan true calls → LiftsCalls q d p calls status written
      → LiftsPlan q d p d' p' plan status written

-- ---- the whole command

-- What is written of a well-typed pair and a plan of its translation: the line that says why the translation is not printed and
-- read again, or what is written of the plan of that.
pub data LiftsPair (q : Fraction) (d : Domain) (p : Problem) (plan : List ℕ) (status : Status) (written : List ℕ) : Type 0 where
  no_texts : (e : Early) → NotAgain q d p e → status ≡ early_status e → written ≡ early_text e → LiftsPair q d p plan status written
  of_texts : (d' : Domain) (p' : Problem) → SpellsAgain q d p d' p' → LiftsPlan q d p d' p' plan status written
      → LiftsPair q d p plan status written

-- What is written of three texts: the line that says why the first two spell no well-typed pair, or what is written of the pair
-- that they spell and of the plan.
pub data Lifts (q : Fraction) (domain problem plan : List ℕ) (status : Status) (written : List ℕ) : Type 0 where
  no_pair : (e : Early) → PairRefused domain problem e → status ≡ early_status e → written ≡ early_text e
      → Lifts q domain problem plan status written
  of_pair : (d : Domain) (p : Problem) → SpellsWellTyped domain problem d p → LiftsPair q d p plan status written
      → Lifts q domain problem plan status written
