-- What the laws of the translation say of its printed texts: of the pair that is read from them.
use Rattle.std.specs.Prelude.{◌≡◌, ℕ, List, All, IsTrue}
use Rattle.plus_fraction.specs.Fraction.{Fraction}
use Rattle.plus_tree.specs.declared.trees.Domain.{Domain}
use Rattle.plus_tree.specs.declared.trees.Problem.{Problem}
use Rattle.plus_types.specs.Faults.{is_well_typed}
use Rattle.plus_parser.specs.SpellsDomain.{Spells}
use Rattle.plus_parser.specs.SpellsProblem.{SpellsProblem}
use Rattle.plus_printer.specs.Canon.{domain_text, problem_text}
use Rattle.plus_canonical.specs.Same.{SameDomain, SameProblem}
use Rattle.plus_steps.specs.Stepped.{Move}
use Rattle.plus_steps.specs.Laws.{CallName}
use Rattle.plus_translation.specs.Translated.{translated_domain, translated_problem}
use Rattle.plus_translation.specs.Laws.{stripped, IsSteppedPlan, IsNumericPlan, CanBeTranslated}
use Rattle.laws_translation.specs.Laws.{FitsText}
use Rattle.laws_translation.specs.Typed.Laws.{NoRateShadows}

-- the pair that texts spell which can be translated, and the pair that the printed translation spells
pub record Printed (d : Domain) (p : Problem) (q : Fraction) (d' : Domain) (p' : Problem) : Type 0 where
  pub text : List ℕ
  pub task : List ℕ
  pub domain : Spells text d
  pub problem : SpellsProblem task p
  pub can : CanBeTranslated d p q
  pub fits : FitsText d p q
  pub printed_domain : Spells (domain_text (translated_domain q d p)) d'
  pub printed_problem : SpellsProblem (problem_text (translated_problem q d p)) p'

-- exactly one plan of the printed pair is left as these moves
pub record OneOfPrinted (d' : Domain) (p' : Problem) (moves : List (Move CallName)) : Type 0 where
  pub calls : List CallName
  pub plan : IsNumericPlan d' p' calls
  pub left : stripped calls ≡ moves
  pub one : (other : List CallName) → IsNumericPlan d' p' other → stripped other ≡ moves → other ≡ calls

-- The pair that the printed texts spell is the translated one, but for spans. Its plans are stepped plans of the old pair,
-- once rounds of events are dropped, and each stepped plan is what exactly one of them leaves. It is well typed where no
-- list around a rate of a process binds a variable that the condition of the process binds.
pub record PrintedSays (d : Domain) (p : Problem) (q : Fraction) (d' : Domain) (p' : Problem) : Type 0 where
  pub domain : SameDomain (translated_domain q d p) d'
  pub problem : SameProblem (translated_problem q d p) p'
  pub typed : All NoRateShadows d.processes → IsTrue (is_well_typed d' p')
  pub stepped : (calls : List CallName) → IsNumericPlan d' p' calls → IsSteppedPlan d p q (stripped calls)
  pub planned : (moves : List (Move CallName)) → IsSteppedPlan d p q moves → OneOfPrinted d' p' moves

abbrev pub PrintedPlans : Type 0
PrintedPlans = (d : Domain) (p : Problem) (q : Fraction) (d' : Domain) (p' : Problem) → Printed d p q d' p' → PrintedSays d p q d' p'
