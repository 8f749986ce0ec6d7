-- The value of an expression and the truth of a condition in a state. As in Fox and Long (2003) a
-- fluent may be undefined. What follows from that is this project's profile: an expression has no
-- value where a fluent in it has none or a divisor is zero; a comparison holds exactly where both
-- sides have a value and stand in the relation; and a negation holds exactly where what it negates
-- does not. So where `z` has no value, `(>= (z) 1)` is false and `(not (>= (z) 1))` is true.
use Rattle.std.specs.Prelude.{ℕ, Bool, true, false, Option, Some, None, ◌&&◌, ◌||◌, not, slice_get, unwrap_or, pos, if◌then◌else◌}
use Rattle.std.specs.declared.cmp.Ordering.{Ordering}
use Rattle.std.specs.declared.cmp.Ordering.TheVariants.{Less, Equal, Greater}
use Rattle.plus_fraction.specs.Fraction.{Fraction, whole, ◌+ℚ◌, ◌-ℚ◌, ◌*ℚ◌, ◌/ℚ◌, compared}
use Rattle.plus_model.specs.Terms.{Expression, Number, Fluent, Sum, Difference, Product, Quotient, Test, Below, AtMost, Same, AtLeast, Above, Condition, Always, Never, Both, Either, Atom, Compare, State}

-- two values in this order pass the test
abbrev pub passes : Test → Ordering → Bool
passes Below Less = true
passes Below Equal = false
passes Below Greater = false
passes AtMost Less = true
passes AtMost Equal = true
passes AtMost Greater = false
passes Same Less = false
passes Same Equal = true
passes Same Greater = false
passes AtLeast Less = false
passes AtLeast Equal = true
passes AtLeast Greater = true
passes Above Less = false
passes Above Equal = false
passes Above Greater = true

-- both sides have a value, and they stand in the relation
abbrev pub stand : Test → Option Fraction → Option Fraction → Bool
stand test None right = false
stand test (Some x) None = false
stand test (Some x) (Some y) = passes test (compared x y)

-- the number zero
abbrev pub is_zero : Fraction → Bool
is_zero x = passes Same (compared x (whole (pos 0)))

-- an operation on two values, where both are there
abbrev pub on_both : (Fraction → Fraction → Option Fraction) → Option Fraction → Option Fraction
    → Option Fraction
on_both op None right = None
on_both op (Some x) None = None
on_both op (Some x) (Some y) = op x y

-- a divisor that is zero gives no value
abbrev pub quotient : Fraction → Fraction → Option Fraction
quotient x y = if is_zero y then None else Some (x /ℚ y)

-- the value of a fluent, if it has one
abbrev pub fluent_of : State → ℕ → Option Fraction
fluent_of s f = unwrap_or (slice_get s.fluents f) None

-- whether an atom is true
abbrev pub atom_of : State → ℕ → Bool
atom_of s a = unwrap_or (slice_get s.atoms a) false

-- the value of an expression; none where a fluent has none or a divisor is zero
abbrev pub value : Expression → State → Option Fraction
value (Number x) s = Some x
value (Fluent f) s = fluent_of s f
value (Sum a b) s = on_both (λ x y. Some (x +ℚ y)) (value a s) (value b s)
value (Difference a b) s = on_both (λ x y. Some (x -ℚ y)) (value a s) (value b s)
value (Product a b) s = on_both (λ x y. Some (x *ℚ y)) (value a s) (value b s)
value (Quotient a b) s = on_both quotient (value a s) (value b s)

-- the truth of a literal whose atom or comparison has truth b: where it is negative, the opposite
abbrev pub signed : Bool → Bool → Bool
signed true b = b
signed false b = not b

-- the truth of a condition, from the whole condition: no member is left out because another decides
abbrev pub holds : Condition → State → Bool
holds Always s = true
holds Never s = false
holds (Both c d) s = holds c s && holds d s
holds (Either c d) s = holds c s || holds d s
holds (Atom a positive) s = signed positive (atom_of s a)
holds (Compare test left right positive) s = signed positive (stand test (value left s) (value right s))
