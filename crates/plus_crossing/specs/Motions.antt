-- How far values and rates go: what lets all fluents move for some time and stay values of the number type.
use Rattle.std.specs.Prelude.{◌≡◌, ◌≤◌, ◌*◌, ℕ, false, List, [], ◌∷◌, Option, Some, None}
use Rattle.plus_fraction.specs.Fraction.{Fraction}
use Rattle.plus_number.specs.Size.{size}
use Rattle.plus_model.specs.Value.{is_zero}
use Rattle.plus_state.specs.Asked.{AllFit}
use Rattle.plus_crossing.specs.Moves.{moved_nodes}

-- a value that moves, and its rate: the product of their sizes is at most e
abbrev pub Spans : Option Fraction → Fraction → ℕ → Type 0
Spans None r e = Unit {0}
Spans (Some v) r e = is_zero r ≡ false → size v * size r ≤ e

-- that of each fluent
abbrev pub Extends : List (Option Fraction) → List Fraction → ℕ → Type 0
Extends [] rs e = Unit {0}
Extends (v ∷ vs) [] e = Unit {0}
Extends (v ∷ vs) (r ∷ rs) e = Spans v r e × Extends vs rs e

-- whatever goes no further may move for x units of time
abbrev pub MayDrift : (Fraction → Type 0) → ℕ → Fraction → Type 0
MayDrift fits e x = (vs : List (Option Fraction)) (rs : List Fraction) → Extends vs rs e → AllFit fits (moved_nodes vs rs x)
