-- Timed literals as they are worked.
use Rattle.std.specs.Prelude.{List, [], ◌∷◌, Option, Some, None}
use Rattle.plus_fraction.specs.Fraction.{Fraction}
use Rattle.plus_tree.specs.declared.terms.Literal.{Literal}
use Rattle.plus_translation.specs.Translated.{Due}
use Rattle.plus_translate.specs.declared.due.Due as code
use Rattle.plus_translate.specs.declared.fault.TransFault.{TransFault}
use Rattle.plus_translate.specs.declared.fault.TransFault.TheVariants.{NameTaken, OffGrid, TooDeep, Memory}
use Rattle.plus_translate.specs.Grid.{IsFirstOff}

abbrev pub due_of : code.Due → Due
due_of d = record { steps = d.steps; positive = d.positive; atom = d.atom.now }

abbrev pub dues_of : Option code.Due → List Due
dues_of None = []
dues_of (Some d) = due_of d ∷ []

-- the first of these times that is off the grid is refused; want of memory is free
abbrev pub NotDue : Fraction → List Literal → TransFault → Type 0
NotDue q times (NameTaken file place) = ⊥
NotDue q times (OffGrid place) = IsFirstOff q times place
NotDue q times TooDeep = ⊥
NotDue q times Memory = Unit {0}
