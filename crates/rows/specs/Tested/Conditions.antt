-- Worked rows of what is asked along rates. Atom 0 is true; x is 3 and rises by 1, y is 2 and stays,
-- z has no value; numbers up to 9 fit.
use Rattle.std.specs.Prelude.{◌≡◌, true, false, List, [], ◌∷◌, Some, None, negsuc}
use Rattle.plus_fraction.specs.Fraction.{Fraction, whole}
use Rattle.plus_model.specs.Terms.{Expression, Number, Fluent, Sum, Product, Quotient, AtLeast, Condition, Always, Both, Atom, Compare, State}
use Rattle.rows.specs.Model.Rises.{n}
use Rattle.plus_state.specs.declared.term.Sign.TheVariants.{Plus, Minus, Times, Divide}
use Rattle.plus_state.specs.Node.{Node}
use Rattle.plus_state.specs.Asked.{node, AllFit, FirstUnfit}
use Rattle.plus_crossing.specs.Asked.{Ask, asks, straight, AllPass, FirstFailing}
use Rattle.plus_crossing.specs.Conds.{live_asks}
use Rattle.plus_crossing.specs.Next.{cross_asks}
use Rattle.plus_crossing.specs.Listed.{live_roots}
use Rattle.plus_crossing.specs.Moves.{moved_nodes}
use Rattle.rows.specs.Tested.Small.{Small}

abbrev pub state : State
state = record { atoms = true ∷ []; fluents = Some (n 3) ∷ Some (n 2) ∷ None ∷ [] }

abbrev pub rates : List Fraction
rates = n 1 ∷ n 0 ∷ n 0 ∷ []

abbrev pub x : Expression
x = Fluent 0

abbrev pub y : Expression
y = Fluent 1

abbrev pub z : Expression
z = Fluent 2

abbrev pub at_least : Expression → Expression → Condition
at_least e f = Compare AtLeast e f true

-- the tests that tell whether a condition holds just after; and where its roots are
abbrev pub soon : Condition → List Ask
soon c = live_asks 0 c state rates

abbrev pub cross : Condition → List Ask
cross c = cross_asks 0 c state rates

-- (* (x) (x)), (>= (+ (x) (y)) 5) and (>= (* (x) (y)) 5)
abbrev pub square : Expression
square = Product x x

abbrev pub summed : Condition
summed = at_least (Sum x y) (Number (n 5))

abbrev pub multiplied : Condition
multiplied = at_least (Product x y) (Number (n 5))

-- a side without value ends its comparison; where the atoms decide, a comparison is not asked
pub record SoonRows : Type 0 where
  pub bare : soon (at_least x y) ≡ []
  pub sum : soon summed ≡ asks (node Plus (n 3) (n 2)) ∷ asks (node Plus (n 1) (n 0)) ∷ []
  pub product :
      soon multiplied ≡ straight 1 true ∷ asks (node Times (n 3) (n 2)) ∷ asks (node Times (n 1) (n 2)) ∷ []
  pub quotient :
      soon (at_least (Quotient x y) y) ≡ straight 1 true ∷ asks (node Divide (n 3) (n 2)) ∷ asks (node Divide (n 1) (n 2)) ∷ []
  pub undefined : soon (at_least z square) ≡ []
  pub in_order :
      soon (Both (at_least x y) (Both summed Always)) ≡ asks (node Plus (n 3) (n 2)) ∷ asks (node Plus (n 1) (n 0)) ∷ []
  pub decided : soon (Both (at_least square y) (Both (Atom 0 false) Always)) ≡ []
  pub sum_passes : AllPass Small (soon summed)
  pub product_passes : AllPass Small (soon multiplied)

-- the product stands in the second comparison
pub record SoonStops : Type 0 where
  pub factor : FirstFailing Small (soon (Both summed (Both (at_least square y) Always))) (straight 2 false)
  pub divisor : FirstFailing Small (soon (at_least (Quotient y x) y)) (straight 1 false)
  pub value :
      FirstFailing Small (soon (at_least (Product x (Number (n 4))) y)) (asks (node Times (n 3) (n 4)))
  pub slope :
      FirstFailing Small (soon (at_least (Product (Sum x (Number (whole (negsuc 2)))) (Number (n 10))) y)) (asks (node Times (n 1) (n 10)))

-- x comes to 5 at 2, and has been at y before
pub record RootRows : Type 0 where
  pub later :
      cross (at_least x (Number (n 5))) ≡ asks (node Minus (n 5) (n 3)) ∷ asks (node Minus (n 1) (n 0)) ∷ asks (node Divide (n 2) (n 1)) ∷ []
  pub before : cross (at_least x y) ≡ []
  pub still : cross (at_least y (Number (n 5))) ≡ []
  pub passes : AllPass Small (cross (at_least x (Number (n 5))))
  pub roots :
      live_roots (Both (at_least x (Number (n 5))) (Both (at_least x (Number (n 4))) Always)) state rates ≡ n 2 ∷ n 1 ∷ []
  pub no_root : live_roots (at_least x y) state rates ≡ []
  pub dead : live_roots (Both (at_least x (Number (n 5))) (Both (Atom 0 false) Always)) state rates ≡ []

pub record RootStops : Type 0 where
  pub far : FirstFailing Small (cross (at_least x (Number (n 13)))) (asks (node Minus (n 13) (n 3)))
  pub factor : FirstFailing Small (cross (at_least square (Number (n 5)))) (straight 1 false)

-- x moves, y and z do not
abbrev pub moves : Fraction → List Node
moves delay = moved_nodes state.fluents rates delay

pub record MoveRows : Type 0 where
  pub nodes : moves (n 4) ≡ node Times (n 1) (n 4) ∷ node Plus (n 3) (n 4) ∷ []
  pub fit : AllFit Small (moves (n 4))
  pub delay : FirstUnfit Small (moves (n 10)) (node Times (n 1) (n 10))
  pub value : FirstUnfit Small (moves (n 7)) (node Plus (n 3) (n 7))
