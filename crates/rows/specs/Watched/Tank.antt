-- Worked rows: constraints on a tank that is opened at 1, is full at 7/2 and closed there by an event, and is left to 10.
use Rattle.std.specs.Prelude.{true, false, pos}
use Rattle.plus_fraction.specs.Fraction.{Fraction, over, whole}
use Rattle.plus_model.specs.Terms.{Number, Fluent, Test, AtLeast, AtMost, Condition, Atom, Compare}
use Rattle.rows.specs.Model.Tank.{tank, tank_history}
use Rattle.plus_constraints.specs.Constraint.{When, Always, Sometime, Within, HoldAfter, Constraint}
use Rattle.plus_constraints.specs.Found.{Found, Holds, Never, FailsAt, FailsAfter, IsFound}

abbrev pub level : Test → Fraction → Condition
level test x = Compare test (Fluent 0) (Number x) true

abbrev pub constraint : When → Condition → Constraint
constraint w c = record { when = w; condition = c }

-- what is found of a constraint on the tank's history
abbrev pub Finds : When → Condition → Found → Type 0
Finds w c f = IsFound tank tank_history (constraint w c) f

-- the tank is never above 5, is open at some time, is not full by 3, and is not closed for good at 7/2, where the valve is still
-- open on arrival; it is at 4 at the time 3 and above it just after. From 4 on it is closed.
pub record TankRows : Type 0 where
  pub below_five : Finds Always (level AtMost (whole (pos 5))) Holds
  pub opened : Finds Sometime (Atom 0 true) Holds
  pub full_by_three : Finds (Within (whole (pos 3))) (level AtLeast (whole (pos 5))) Never
  pub closed_from_arrival : Finds (HoldAfter (over (pos 7) 2)) (Atom 0 false) (FailsAt (over (pos 7) 2))
  pub below_four : Finds Always (level AtMost (whole (pos 4))) (FailsAfter (whole (pos 3)))
  pub closed_later : Finds (HoldAfter (whole (pos 4))) (Atom 0 false) Holds
