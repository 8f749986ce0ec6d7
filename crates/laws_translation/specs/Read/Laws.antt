-- What is said of the translation that `translate` hands out, once its texts are printed.
use Rattle.std.specs.Prelude.{◌<◌, ◌^◌, List, ℕ, length, IsTrue, pos}
use Rattle.plus_fraction.specs.Fraction.{Fraction, whole, ◌<ℚ◌}
use Rattle.plus_number.specs.Frac.{IsFrac64}
use Rattle.plus_tree.specs.declared.trees.Domain.{Domain}
use Rattle.plus_tree.specs.declared.trees.Problem.{Problem}
use Rattle.plus_types.specs.Faults.{is_well_typed}
use Rattle.plus_parser.specs.SpellsDomain.{Spells, SpellsWithin}
use Rattle.plus_parser.specs.SpellsProblem.{SpellsProblem, SpellsProblemWithin}
use Rattle.plus_printer.specs.Canon.{domain_text, problem_text}
use Rattle.plus_canonical.specs.Same.{SameDomain, SameProblem}
use Rattle.plus_translation.specs.Depth.{most_depth}
use Rattle.laws_translation.specs.Plans.Laws.{PrintedSays}
use Rattle.plus_translate.specs.Translates.{IsTranslation}

-- a step takes time, and its length is a value
pub record IsStep (q : Fraction) : Type 0 where
  pub passes : whole (pos 0) <ℚ q
  pub value : IsFrac64 q

-- two texts spell a well-typed pair, and this is its translation in steps of q; a text in memory is shorter than 2^63 bytes
pub record IsTranslated (text task : List ℕ) (d : Domain) (p : Problem) (q : Fraction) (d' : Domain) (p' : Problem) : Type 0 where
  pub short : length text < 2 ^ 63
  pub domain : Spells text d
  pub problem : SpellsProblem task p
  pub typed : IsTrue (is_well_typed d p)
  pub step : IsStep q
  pub translation : IsTranslation q d p d' p'

-- the canonical texts of the translation spell it again, but for spans, with no more than 64 parentheses open at once
abbrev pub TranslationIsRead : Type 0
TranslationIsRead =
    (text task : List ℕ) (d : Domain) (p : Problem) (q : Fraction) (d' : Domain) (p' : Problem) → IsTranslated text task d p q d' p'
    → ((again : Domain) × SpellsWithin most_depth (domain_text d') again × SameDomain d' again)
    × ((again : Problem) × SpellsProblemWithin most_depth (problem_text p') again × SameProblem p' again)

-- The pair that they spell has these plans: rounds of events dropped, each is a stepped plan of the old pair, and each stepped plan
-- is what exactly one of them leaves.
abbrev pub ReadPlans : Type 0
ReadPlans =
    (text task : List ℕ) (d : Domain) (p : Problem) (q : Fraction) (d' : Domain) (p' : Problem) (d'' : Domain) (p'' : Problem)
    → IsTranslated text task d p q d' p' → Spells (domain_text d') d'' → SpellsProblem (problem_text p') p'' → PrintedSays d p q d'' p''
