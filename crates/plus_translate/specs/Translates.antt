-- What `translate` answers.
use Rattle.std.specs.Prelude.{◌≡◌, true, false, [], All, Some, slice_get}
use Rattle.plus_fraction.specs.Fraction.{Fraction}
use Rattle.plus_tree.specs.declared.trees.Domain.{Domain}
use Rattle.plus_tree.specs.declared.trees.Problem.{Problem}
use Rattle.plus_translation.specs.Names.{names_taken}
use Rattle.plus_translation.specs.Translated.{times_of, translated_domain, translated_problem}
use Rattle.plus_translate.specs.declared.fault.TransFault.{TransFault}
use Rattle.plus_translate.specs.declared.fault.TransFault.TheVariants.{NameTaken, OffGrid, TooDeep, Memory}
use Rattle.plus_translate.specs.Grid.{StandsOnGrid, IsFirstOff}
use Rattle.plus_translation.specs.Depth.{pair_within}

-- no name begins as those that the translation adds, and all timed literals stand on the grid
pub record HasTranslation (q : Fraction) (d : Domain) (p : Problem) : Type 0 where
  pub names : names_taken d p ≡ []
  pub grid : All (StandsOnGrid q) (times_of p)

-- the translated pair, whose two texts are not too deep
pub record IsTranslation (q : Fraction) (d : Domain) (p : Problem) (domain : Domain) (problem : Problem) : Type 0 where
  pub has : HasTranslation q d p
  pub domain_is : domain ≡ translated_domain q d p
  pub problem_is : problem ≡ translated_problem q d p
  pub within : pair_within domain problem ≡ true

-- Why there is none: the first name that is taken; or, where none is, the first literal that is off the grid; or, where
-- none is, a text is too deep. Want of memory is free.
abbrev pub NoTranslation : Fraction → Domain → Problem → TransFault → Type 0
NoTranslation q d p (NameTaken file place) = slice_get (names_taken d p) 0 ≡ Some (file, place)
NoTranslation q d p (OffGrid place) = (names_taken d p ≡ []) × IsFirstOff q (times_of p) place
NoTranslation q d p TooDeep = HasTranslation q d p × (pair_within (translated_domain q d p) (translated_problem q d p) ≡ false)
NoTranslation q d p Memory = Unit {0}

-- a pair that is too deep is refused; want of memory is free
abbrev pub NotShallow : Domain → Problem → TransFault → Type 0
NotShallow d p (NameTaken file place) = ⊥
NotShallow d p (OffGrid place) = ⊥
NotShallow d p TooDeep = pair_within d p ≡ false
NotShallow d p Memory = Unit {0}
