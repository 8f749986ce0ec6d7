-- The first of places that are looked at one after the other.
use Rattle.std.specs.Prelude.{List, [], ◌∷◌, Option, Some, None}
use Rattle.plus_translation.specs.Names.{Place}

-- the place that was found before, if there is one; else the first of these
abbrev pub first_of : Option Place → List Place → Option Place
first_of (Some p) places = Some p
first_of None [] = None
first_of None (p ∷ places) = Some p
