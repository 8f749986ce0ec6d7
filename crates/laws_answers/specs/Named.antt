-- What the words of a command say of its numbers.
use Rattle.std.specs.Prelude.{◌≡◌, ℕ, ◌≤◌, Bool, List, Some}
use Rattle.plus_fraction.specs.Fraction.{Fraction}
use Rattle.plus_types.specs.declared.faults.File.{File}
use Rattle.laws_answers.specs.Chained.{most_decisions}
use Rattle.laws_translation.specs.Read.Laws.{IsStep}
use Rattle.plus_run.specs.Command.{Translate, Lift, Plan, command_of}

-- each interval that the words name is above 0 and a number of the program, and a plan has at most 64 decisions
abbrev pub PlanIsNamed : Type 0
PlanIsNamed =
    (words : List (List ℕ)) (q : Fraction) (k tries : ℕ) (cut : Bool) (d p : List ℕ)
    → command_of words ≡ Some (Plan q k tries cut d p) → IsStep q × (k ≤ most_decisions)

abbrev pub LiftIsNamed : Type 0
LiftIsNamed =
    (words : List (List ℕ)) (q : Fraction) (d p l : List ℕ) → command_of words ≡ Some (Lift q d p l) → IsStep q

abbrev pub TranslateIsNamed : Type 0
TranslateIsNamed =
    (words : List (List ℕ)) (file : File) (q : Fraction) (d p : List ℕ) → command_of words ≡ Some (Translate file q d p) → IsStep q
