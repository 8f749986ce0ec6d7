-- Which conditions must be looked at from root to root: those that ask more than their truth on the way.
use Rattle.std.specs.Prelude.{◌≡◌, ℕ, Bool, true, false, List, [], ◌∷◌, Option, Some, None, slice_get, if◌then◌else◌}
use Rattle.plus_fraction.specs.Fraction.{Fraction}
use Rattle.plus_model.specs.Terms.{Condition}
use Rattle.plus_model.specs.Firing.{is_in}
use Rattle.plus_settle.specs.Still.Simple.{is_simple}

abbrev pub simple_at : Option Condition → List Fraction → Bool
simple_at None rs = true
simple_at (Some c) rs = is_simple c rs

-- those of these numbers whose condition is not simple
abbrev pub not_simple_among : List Condition → List ℕ → List Fraction → List ℕ
not_simple_among cs [] rs = []
not_simple_among cs (k ∷ ks) rs = if simple_at (slice_get cs k) rs then not_simple_among cs ks rs else k ∷ not_simple_among cs ks rs

-- each condition that is not listed is simple
abbrev pub OthersSimple : List Condition → List Fraction → List ℕ → Type 0
OthersSimple cs rs listed = (k : ℕ) (c : Condition) → slice_get cs k ≡ Some c → is_in listed k ≡ false → is_simple c rs ≡ true
