-- What is printed of a translation: the canonical text of one half.
use Rattle.std.specs.Prelude.{◌≡◌, ℕ, List, true, false, Option, Some, None}
use Rattle.plus_fraction.specs.Fraction.{Fraction}
use Rattle.plus_tree.specs.declared.trees.Domain.{Domain}
use Rattle.plus_tree.specs.declared.trees.Problem.{Problem}
use Rattle.plus_types.specs.declared.faults.File.{File}
use Rattle.plus_types.specs.declared.faults.File.TheVariants as files
use Rattle.plus_printer.specs.Canon.{domain_text, problem_text}
use Rattle.plus_translation.specs.Depth.{pair_within}
use Rattle.plus_translate.specs.Translates.{IsTranslation}

-- the text of one half
abbrev pub half_text : File → Domain → Problem → List ℕ
half_text files.Domain d p = domain_text d
half_text files.Problem d p = problem_text p

-- there is a translation of the pair in steps of q, and this is the text of that half of it
pub record IsTextOfHalf (file : File) (q : Fraction) (d : Domain) (p : Problem) (text : List ℕ) : Type 0 where
  pub domain : Domain
  pub problem : Problem
  pub translation : IsTranslation q d p domain problem
  pub text_is : text ≡ half_text file domain problem

-- the text of one half of a translation, and none where a text of it is too deep
abbrev pub IsPrinted : File → Domain → Problem → Option (List ℕ) → Type 0
IsPrinted file d p (Some text) = (pair_within d p ≡ true) × (text ≡ half_text file d p)
IsPrinted file d p None = pair_within d p ≡ false
