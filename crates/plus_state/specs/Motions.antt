-- Values of fluents, some of which move.
use Rattle.std.specs.Prelude.{List, [], ◌∷◌, Option, Some, None}
use Rattle.plus_fraction.specs.Fraction.{Fraction}

-- these values, with what moves in its place
abbrev pub laid : List (Option Fraction) → List (Option Fraction) → List (Option Fraction)
laid [] ms = []
laid (v ∷ vs) [] = v ∷ vs
laid (v ∷ vs) (None ∷ ms) = v ∷ laid vs ms
laid (v ∷ vs) (Some x ∷ ms) = Some x ∷ laid vs ms
