-- Worked rows of values and conditions. The state has the atoms 0 (true) and 1 (false), and the
-- fluents 0 (6), 1 (4) and 2 (no value).
use Rattle.std.specs.Prelude.{◌≡◌, Bool, true, false, [], ◌∷◌, Some, None, pos, negsuc}
use Rattle.plus_fraction.specs.Fraction.{whole, over}
use Rattle.plus_model.specs.Terms.{Expression, Number, Fluent, Sum, Difference, Product, Quotient, Test, Below, AtMost, Same, AtLeast, Above, Always, Never, Both, Either, Atom, Compare, State}
use Rattle.plus_model.specs.Value.{value, holds}

abbrev pub some_values : State
some_values =
    record { atoms = true ∷ false ∷ []; fluents = Some (whole (pos 6)) ∷ Some (whole (pos 4)) ∷ None ∷ [] }

abbrev pub six : Expression
six = Fluent 0

abbrev pub four : Expression
four = Fluent 1

abbrev pub unknown : Expression
unknown = Fluent 2

pub record ValueRows : Type 0 where
  pub number : value (Number (over (pos 1) 3)) some_values ≡ Some (over (pos 1) 3)
  pub fluent : value six some_values ≡ Some (whole (pos 6))
  pub undefined : value unknown some_values ≡ None
  pub sum : value (Sum six four) some_values ≡ Some (whole (pos 10))
  pub difference : value (Difference four six) some_values ≡ Some (whole (negsuc 1))
  pub product : value (Product six four) some_values ≡ Some (whole (pos 24))
  pub quotient : value (Quotient six four) some_values ≡ Some (over (pos 3) 2)
  pub quotient_below : value (Quotient six (Difference four six)) some_values ≡ Some (whole (negsuc 2))
  pub by_zero : value (Quotient six (Difference four four)) some_values ≡ None
  pub left_undefined : value (Sum unknown four) some_values ≡ None
  pub right_undefined : value (Product four unknown) some_values ≡ None
  pub nested :
      value (Difference (Product six six) (Quotient four (Number (whole (pos 8))))) some_values ≡ Some (over (pos 71) 2)

-- the comparison holds of 4 and 6, of 6 and 6, of 6 and 4
abbrev pub three : Test → Bool × Bool × Bool
three test = (
  holds (Compare test four six true) some_values,
  holds (Compare test six six true) some_values,
  holds (Compare test six four true) some_values,
)

pub record HoldsRows : Type 0 where
  pub below : three Below ≡ (true, false, false)
  pub at_most : three AtMost ≡ (true, true, false)
  pub same : three Same ≡ (false, true, false)
  pub at_least : three AtLeast ≡ (false, true, true)
  pub above : three Above ≡ (false, false, true)
  pub not_above : holds (Compare Above four six false) some_values ≡ true
  pub not_at_least : holds (Compare AtLeast six four false) some_values ≡ false
  pub undefined : holds (Compare AtLeast unknown (Number (whole (pos 1))) true) some_values ≡ false
  pub not_undefined : holds (Compare AtLeast unknown (Number (whole (pos 1))) false) some_values ≡ true
  pub same_undefined : holds (Compare Same unknown unknown true) some_values ≡ false
  pub by_zero : holds (Compare Same six (Quotient six (Difference six six)) false) some_values ≡ true
  pub atom : holds (Atom 0 true) some_values ≡ true
  pub not_atom : holds (Atom 0 false) some_values ≡ false
  pub absent : holds (Atom 1 true) some_values ≡ false
  pub not_absent : holds (Atom 1 false) some_values ≡ true
  pub empty_and : holds Always some_values ≡ true
  pub empty_or : holds Never some_values ≡ false
  pub and : holds (Both (Atom 0 true) (Both (Atom 1 false) Always)) some_values ≡ true
  pub and_first : holds (Both (Atom 1 true) (Both (Atom 0 true) Always)) some_values ≡ false
  pub and_second : holds (Both (Atom 0 true) (Both (Atom 1 true) Always)) some_values ≡ false
  pub or_none : holds (Either (Atom 1 true) (Either (Atom 0 false) Never)) some_values ≡ false
  pub or_first : holds (Either (Atom 0 true) (Either (Atom 1 true) Never)) some_values ≡ true
  pub or_second : holds (Either (Atom 1 true) (Either (Atom 0 true) Never)) some_values ≡ true
