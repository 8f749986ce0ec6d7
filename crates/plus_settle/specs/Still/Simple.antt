-- Conditions that ask the same at each moment along rates: each side of each comparison is a number, a fluent, or an expression
-- that reads no fluent that moves.
use Rattle.std.specs.Prelude.{ℕ, Bool, true, ◌&&◌, List}
use Rattle.plus_fraction.specs.Fraction.{Fraction}
use Rattle.plus_model.specs.Terms.{Expression, Number, Fluent, Sum, Difference, Product, Quotient, Condition, Always, Never, Both, Either, Atom, Compare}
use Rattle.plus_model.specs.Value.{is_zero}
use Rattle.plus_model.specs.Piece.{rate_of}
use Rattle.plus_state.specs.Fits.{IsIn}

-- no fluent in it moves
abbrev pub is_still : Expression → List Fraction → Bool
is_still (Number x) rs = true
is_still (Fluent f) rs = is_zero (rate_of rs f)
is_still (Sum a b) rs = is_still a rs && is_still b rs
is_still (Difference a b) rs = is_still a rs && is_still b rs
is_still (Product a b) rs = is_still a rs && is_still b rs
is_still (Quotient a b) rs = is_still a rs && is_still b rs

-- a number, a fluent, or no fluent in it moves
abbrev pub is_plain : Expression → List Fraction → Bool
is_plain (Number x) rs = true
is_plain (Fluent f) rs = true
is_plain (Sum a b) rs = is_still (Sum a b) rs
is_plain (Difference a b) rs = is_still (Difference a b) rs
is_plain (Product a b) rs = is_still (Product a b) rs
is_plain (Quotient a b) rs = is_still (Quotient a b) rs

abbrev pub is_simple : Condition → List Fraction → Bool
is_simple Always rs = true
is_simple Never rs = true
is_simple (Both c d) rs = is_simple c rs && is_simple d rs
is_simple (Either c d) rs = is_simple c rs && is_simple d rs
is_simple (Atom a positive) rs = true
is_simple (Compare test left right positive) rs = is_plain left rs && is_plain right rs

-- each fluent in it is one of so many
abbrev pub HaveRates : ℕ → Condition → Type 0
HaveRates n Always = Unit {0}
HaveRates n Never = Unit {0}
HaveRates n (Both c d) = HaveRates n c × HaveRates n d
HaveRates n (Either c d) = HaveRates n c × HaveRates n d
HaveRates n (Atom a positive) = Unit {0}
HaveRates n (Compare test left right positive) = IsIn n left × IsIn n right
