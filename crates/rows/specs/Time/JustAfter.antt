-- Worked rows of what holds just after a state. Atom 0 is true and atom 1 is not; x is 5 and rises
-- by 1, y is 2 and stays, z has no value.
use Rattle.std.specs.Prelude.{◌≡◌, true, false, List, [], ◌∷◌, Some, None, pos, negsuc}
use Rattle.plus_fraction.specs.Fraction.{Fraction, over, whole}
use Rattle.plus_model.specs.Terms.{Expression, Number, Fluent, Difference, Product, Quotient, Test, Below, AtMost, Same, AtLeast, Above, Condition, Always, Never, Both, Either, Atom, Compare, State}
use Rattle.plus_model.specs.Value.{holds}
use Rattle.plus_model.specs.Running.{JustAfter}
use Rattle.plus_model.specs.Piece.{IsStraight}
use Rattle.rows.specs.Model.Rises.{n, values, if_x, rises}

abbrev pub at_five : State
at_five = record { atoms = true ∷ false ∷ []; fluents = Some (n 5) ∷ Some (n 2) ∷ None ∷ [] }

abbrev pub x_rises : List Fraction
x_rises = n 1 ∷ n 0 ∷ n 0 ∷ []

abbrev pub Soon : Condition → Type 0
Soon c = JustAfter at_five x_rises c

abbrev pub and : Condition → Condition → Condition
and c d = Both c (Both d Always)

abbrev pub or : Condition → Condition → Condition
or c d = Either c (Either d Never)

-- a member that holds at 5 alone does not help
pub record JoinedRows : Type 0 where
  pub both : Soon (and (if_x Above 5) (if_x Below 6))
  pub both_now : holds (and (if_x AtLeast 5) (if_x AtMost 5)) at_five ≡ true
  pub not_both : Soon (and (if_x AtLeast 5) (if_x AtMost 5)) → ⊥
  pub either : Soon (or (if_x Below 5) (if_x Above 5))
  pub neither_now : holds (or (if_x Below 5) (if_x Above 5)) at_five ≡ false
  pub not_either : Soon (or (if_x Below 5) (if_x Same 5)) → ⊥
  pub atom : Soon (Atom 0 true)
  pub not_atom : Soon (Atom 0 false) → ⊥
  pub absent : Soon (Atom 1 false)
  pub not_absent : Soon (Atom 1 true) → ⊥
  pub empty_and : Soon Always
  pub empty_or : Soon Never → ⊥

abbrev pub x : Expression
x = Fluent 0

abbrev pub y : Expression
y = Fluent 1

abbrev pub z : Expression
z = Fluent 2

abbrev pub is : Expression → Test → Fraction → Condition
is e test k = Compare test e (Number k) true

abbrev pub is_not : Expression → Test → Fraction → Condition
is_not e test k = Compare test e (Number k) false

-- a side without value makes the comparison false, and its negation true
pub record SideRows : Type 0 where
  pub undefined : Soon (is z AtLeast (n 1)) → ⊥
  pub not_undefined : Soon (is_not z AtLeast (n 1))
  pub right : Soon (Compare AtLeast x z true) → ⊥
  pub not_right : Soon (Compare AtLeast x z false)
  pub by_zero : Soon (is (Quotient x (Difference y y)) AtLeast (n 0)) → ⊥
  pub not_by_zero : Soon (is_not (Quotient x (Difference y y)) AtLeast (n 0))
  pub product : Soon (is (Product y x) Above (n 10))
  pub product_left : Soon (is (Product x y) AtMost (n 10)) → ⊥
  pub product_falls : Soon (is (Product x (Difference (Number (n 0)) y)) Below (whole (negsuc 9)))
  pub quotient : Soon (is (Quotient x y) Above (over (pos 5) 2))
  pub quotient_same : Soon (is (Quotient x y) Same (over (pos 5) 2)) → ⊥

-- x is 0 and rises: `(> (* (x) (x)) 0)` holds just after, and `(= (* (x) (x)) 0)` at 0 alone; the test
-- of values and slopes does not speak of them
pub record SquareRow : Type 0 where
  pub crooked : IsStraight (is (Product x x) Above (n 0)) (values 0 0) rises → ⊥
  pub now : holds (is (Product x x) Same (n 0)) (values 0 0) ≡ true
  pub above : JustAfter (values 0 0) rises (is (Product x x) Above (n 0))
  pub not_same : JustAfter (values 0 0) rises (is (Product x x) Same (n 0)) → ⊥
