-- Worked rows: x rises from 0 at 0 to 8 at 8, in one stretch without a moment inside.
use Rattle.std.specs.Prelude.{◌≡◌, true, false, List, [], ◌∷◌}
use Rattle.plus_model.specs.Terms.{Number, Fluent, Product, Below, AtMost, Same, AtLeast, Above, Condition, Never, Either, Compare}
use Rattle.rows.specs.Model.Rises.{n, if_x, stick_world, stick_history}
use Rattle.plus_state.specs.declared.term.Sign.TheVariants.{Plus, Minus, Times, Divide}
use Rattle.plus_state.specs.Asked.{node}
use Rattle.plus_crossing.specs.Asked.{Ask, asks, straight, AllPass, FirstFailing}
use Rattle.plus_crossing.specs.Laws.{AnySize}
use Rattle.plus_constraints.specs.Constraint.{When, Always, Sometime, Within, HoldAfter}
use Rattle.plus_constraints.specs.Found.{Found, Holds, Never as never, FailsAt, FailsAfter, IsFound}
use Rattle.plus_watch.specs.Looks.{looks_ask, history_looks}
use Rattle.rows.specs.Watched.Tank.{constraint}

abbrev pub Finds : When → Condition → Found → Type 0
Finds w c f = IsFound stick_world stick_history (constraint w c) f

-- what a constraint asks along the history
abbrev pub asked : When → Condition → List Ask
asked w c = looks_ask (history_looks stick_world (constraint w c) stick_history)

abbrev pub not_five : Condition
not_five = Compare Same (Fluent 0) (Number (n 5)) false

abbrev pub either : Condition → Condition → Condition
either c d = Either c (Either d Never)

-- x is 5 at one moment alone, inside the stretch; where `within` and `hold-after` begin or end there, the state there is the last
-- one or the first one that is regarded
pub record RampRows : Type 0 where
  pub never_five : Finds Always not_five (FailsAt (n 5))
  pub once_five : Finds Sometime (if_x Same 5) Holds
  pub five_by_five : Finds (Within (n 5)) (if_x Same 5) Holds
  pub above_by_five : Finds (Within (n 5)) (if_x Above 5) never
  pub above_by_six : Finds (Within (n 6)) (if_x Above 5) Holds
  pub five_by_four : Finds (Within (n 4)) (if_x Same 5) never
  pub not_five_from_five : Finds (HoldAfter (n 5)) not_five (FailsAt (n 5))
  pub not_five_from_six : Finds (HoldAfter (n 6)) not_five Holds
  pub above_from_five : Finds (HoldAfter (n 5)) (if_x Above 5) (FailsAt (n 5))
  pub at_least_from_five : Finds (HoldAfter (n 5)) (if_x AtLeast 5) Holds
  pub below_from_five : Finds (HoldAfter (n 5)) (if_x AtMost 5) (FailsAfter (n 5))
  pub outside : Finds Always (either (if_x AtMost 2) (if_x AtLeast 3)) (FailsAfter (n 2))
  pub to_the_end : Finds Always (if_x Below 8) (FailsAt (n 8))
  pub behind_the_end : Finds (HoldAfter (n 9)) (if_x Below 0) Holds

-- (* (x) (x)) at most 2
abbrev pub square : Condition
square = Compare AtMost (Product (Fluent 0) (Fluent 0)) (Number (n 2)) true

-- what is asked, in order: the roots, the moment of the first, the state there; a constraint that is decided asks no more, so
-- that what is not linear behind it is no limit
pub record RampAsks : Type 0 where
  pub in_order :
      asked Always (if_x AtMost 4)
      ≡ asks (node Minus (n 4) (n 0)) ∷ asks (node Minus (n 1) (n 0)) ∷ asks (node Divide (n 4) (n 1))
      ∷ asks (node Plus (n 0) (n 4)) ∷ asks (node Times (n 1) (n 4)) ∷ asks (node Plus (n 0) (n 4)) ∷ []
  pub decided : asked Always (if_x Above 0) ≡ []
  pub length_first :
      asked (Within (n 3)) (if_x AtLeast 5)
      ≡ asks (node Minus (n 3) (n 0)) ∷ asks (node Minus (n 5) (n 0)) ∷ asks (node Minus (n 1) (n 0)) ∷ asks (node Divide (n 5) (n 1))
      ∷ asks (node Times (n 1) (n 3)) ∷ asks (node Plus (n 0) (n 3)) ∷ []
  pub not_linear : FirstFailing AnySize (asked Always square) (straight 1 false)
  pub linear_enough : AllPass AnySize (asked Sometime (either (if_x Same 0) square))
  pub not_regarded : AllPass AnySize (asked (HoldAfter (n 8)) square)
