-- What `lift` makes a timed plan of is a stepped plan of the pair.
use Rattle.std.specs.Prelude.{◌≡◌, ℕ, true, List, ◌++◌, codes}
use Rattle.plus_fraction.specs.Fraction.{Fraction}
use Rattle.plus_tree.specs.declared.trees.Domain.{Domain}
use Rattle.plus_tree.specs.declared.trees.Problem.{Problem}
use Rattle.plus_tree.specs.declared.trees.Call.{Call}
use Rattle.plus_report.specs.Plans.{plan_text}
use Rattle.plus_steps.specs.Stepped.{Move, timed}
use Rattle.plus_steps.specs.Laws.{CallName}
use Rattle.plus_translation.specs.Laws.{stripped, IsSteppedPlan}
use Rattle.laws_translation.specs.Read.Laws.{IsStep}
use Rattle.plus_numeric.specs.Answers.{IsAccepted}
use Rattle.plus_reply.specs.Pair.Pair.{SpellsWellTyped}
use Rattle.plus_report.specs.declared.status.Status.TheVariants as s
use Rattle.plus_lift.specs.Lifts.{names_of, labelled}
use Rattle.plus_lift.specs.Command.Again.{SpellsAgain}
use Rattle.plus_lift.specs.Command.Lift.{Lifts}

-- the calls of a plan of the printed translation are a stepped plan of the pair, once rounds of events are dropped
abbrev pub AcceptedIsStepped : Type 0
AcceptedIsStepped =
    (q : Fraction) (domain problem plan : List ℕ) (d : Domain) (p : Problem) (d' : Domain) (p' : Problem) (calls : List Call)
    → IsStep q → SpellsWellTyped domain problem d p → SpellsAgain q d p d' p' → IsAccepted d' p' plan true calls
    → IsSteppedPlan d p q (stripped (names_of calls))

-- the text is that of a stepped plan of the pair, each action at the time of the steps before it, and behind `; ` a verdict
pub record TellsSteppedPlan (q : Fraction) (domain problem written : List ℕ) : Type 0 where
  pub d : Domain
  pub p : Problem
  pub pair : SpellsWellTyped domain problem d p
  pub moves : List (Move CallName)
  pub stepped : IsSteppedPlan d p q moves
  pub verdict : List ℕ
  pub text : written ≡ plan_text (labelled (timed q moves).0) (timed q moves).1 ++ (codes "; " ++ verdict)

-- what `lift` writes with the status Valid is so
abbrev pub LiftedIsStepped : Type 0
LiftedIsStepped =
    (q : Fraction) (domain problem plan written : List ℕ) → IsStep q → Lifts q domain problem plan s.Valid written → TellsSteppedPlan q domain problem written
