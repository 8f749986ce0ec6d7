-- Plans of a translated pair are stepped plans of the old one, and each stepped plan is that of exactly one of them.
use Rattle.std.specs.Prelude.{◌≡◌, List, [], ◌∷◌, codes, IsTrue, All, pos, if◌then◌else◌}
use Rattle.std.specs.Str.{bytes_eq}
use Rattle.plus_fraction.specs.Fraction.{Fraction, whole, ◌<ℚ◌}
use Rattle.plus_model.specs.Plan.{Called}
use Rattle.plus_tree.specs.declared.terms.Literal.{Literal}
use Rattle.plus_tree.specs.declared.trees.Domain.{Domain}
use Rattle.plus_tree.specs.declared.trees.Problem.{Problem}
use Rattle.plus_types.specs.Faults.{is_well_typed}
use Rattle.plus_literal.specs.Value.{literal_value}
use Rattle.plus_expansion.specs.Expansion.{expanded}
use Rattle.plus_expansion.specs.Calls.{called_of}
use Rattle.plus_steps.specs.Stepped.{Move, Act, Tick, SteppedPlan}
use Rattle.plus_steps.specs.Numeric.{NumericPlan}
use Rattle.plus_steps.specs.Laws.{CallName, IsOnGrid}
use Rattle.plus_translation.specs.Names.{names_taken}
use Rattle.plus_translation.specs.Translated.{times_of, translated_domain, translated_problem}

-- the ground action that a call names in a pair
abbrev pub called_in_pair : Domain → Problem → CallName → Called
called_in_pair d p call = called_of d p call.0 call.1

-- what is left of the calls of a translation: rounds are dropped, and a step of time is one
abbrev pub stripped : List CallName → List (Move CallName)
stripped [] = []
stripped (call ∷ calls) =
    if bytes_eq call.0 (codes "pp-step") then Tick ∷ stripped calls
    else (if bytes_eq call.0 (codes "pp-fire") then stripped calls else Act call ∷ stripped calls)

abbrev pub IsSteppedPlan : Domain → Problem → Fraction → List (Move CallName) → Type 0
IsSteppedPlan d p q moves = SteppedPlan (expanded d p) q (called_in_pair d p) moves

abbrev pub IsNumericPlan : Domain → Problem → List CallName → Type 0
IsNumericPlan d p calls = NumericPlan (called_in_pair d p) (expanded d p).goal (expanded d p).initial calls

abbrev pub IsPlanOfTranslation : Domain → Problem → Fraction → List CallName → Type 0
IsPlanOfTranslation d p q calls = IsNumericPlan (translated_domain q d p) (translated_problem q d p) calls

-- a step takes time, the pair is well typed, no name is taken, and all timed literals stand on the grid
pub record CanBeTranslated (d : Domain) (p : Problem) (q : Fraction) : Type 0 where
  pub passes : whole (pos 0) <ℚ q
  pub typed : IsTrue (is_well_typed d p)
  pub names : names_taken d p ≡ []
  pub grid : All (λ (t : Literal). IsOnGrid q (literal_value t)) (times_of p)

-- each plan of the translated pair is a stepped plan of the old pair, once rounds of events are dropped
abbrev pub TranslatedPlansAreStepped : Type 0
TranslatedPlansAreStepped =
    (d : Domain) (p : Problem) (q : Fraction) (calls : List CallName)
    → CanBeTranslated d p q → IsPlanOfTranslation d p q calls → IsSteppedPlan d p q (stripped calls)

-- exactly one plan of the translated pair is left as these moves
pub record OneOfTranslation (d : Domain) (p : Problem) (q : Fraction) (moves : List (Move CallName)) : Type 0 where
  pub calls : List CallName
  pub plan : IsPlanOfTranslation d p q calls
  pub left : stripped calls ≡ moves
  pub one : (other : List CallName) → IsPlanOfTranslation d p q other → stripped other ≡ moves → other ≡ calls

abbrev pub SteppedPlansAreTranslated : Type 0
SteppedPlansAreTranslated =
    (d : Domain) (p : Problem) (q : Fraction) (moves : List (Move CallName))
    → CanBeTranslated d p q → IsSteppedPlan d p q moves → OneOfTranslation d p q moves
