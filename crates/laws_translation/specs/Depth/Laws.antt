-- The depth of a translation by the shape of its trees is that of its texts.
use Rattle.std.specs.Prelude.{◌≡◌, ℕ, true, List}
use Rattle.plus_fraction.specs.Fraction.{Fraction}
use Rattle.plus_tree.specs.declared.trees.Domain.{Domain}
use Rattle.plus_tree.specs.declared.trees.Problem.{Problem}
use Rattle.plus_parser.specs.SpellsDomain.{Spells, SpellsWithin}
use Rattle.plus_parser.specs.SpellsProblem.{SpellsProblem, SpellsProblemWithin}
use Rattle.plus_printer.specs.Canon.{domain_text, problem_text}
use Rattle.plus_canonical.specs.Same.{SameDomain, SameProblem}
use Rattle.plus_translation.specs.Translated.{translated_domain, translated_problem}
use Rattle.plus_translation.specs.Laws.{CanBeTranslated}
use Rattle.laws_translation.specs.Laws.{FitsText, NestsWithin}
use Rattle.plus_translation.specs.Depth.{most_depth, pair_within}

-- Where the trees are within the depth by their shape, the texts of the translation spell them within it; and where the
-- texts nest to no more than it, the trees are.
pub record DepthIsThatOfTexts (d : Domain) (p : Problem) (q : Fraction) : Type 0 where
  pub reads :
      pair_within (translated_domain q d p) (translated_problem q d p) ≡ true
      → ((again : Domain) × SpellsWithin most_depth (domain_text (translated_domain q d p)) again × SameDomain (translated_domain q d p) again)
      × ((again : Problem) × SpellsProblemWithin most_depth (problem_text (translated_problem q d p)) again × SameProblem (translated_problem q d p) again)
  pub fits :
      NestsWithin most_depth (domain_text (translated_domain q d p)) → NestsWithin most_depth (problem_text (translated_problem q d p))
      → pair_within (translated_domain q d p) (translated_problem q d p) ≡ true

abbrev pub TranslationDepth : Type 0
TranslationDepth =
    (text task : List ℕ) (d : Domain) (p : Problem) (q : Fraction)
    → Spells text d → SpellsProblem task p → CanBeTranslated d p q → FitsText d p q → DepthIsThatOfTexts d p q
