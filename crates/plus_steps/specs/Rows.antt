-- Worked rows: small problems with plans in steps, and plans without time.
use Rattle.std.specs.Prelude.{ℕ, true, false, List, [], ◌∷◌, Some, pos}
use Rattle.plus_fraction.specs.Fraction.{Fraction, whole, over}
use Rattle.plus_model.specs.Terms.{Number, Fluent, Quotient, Same, AtLeast, Condition, Always, Both, Atom, Compare, Write, Add, Delete, Assign, ScaleUp, Effect, Action, Timed, State, Problem}
use Rattle.plus_model.specs.Plan.{Called, Instance}
use Rattle.plus_steps.specs.Stepped.{Act, Tick, SteppedPlan}
use Rattle.plus_steps.specs.Numeric.{NumericPlan}

abbrev pub number : ℕ → Fraction
number n = whole (pos n)

abbrev pub does : Write → Effect
does write = record { guard = Always; write = write }

-- in the rows a call is what it means
abbrev pub meant : Called → Called
meant call = call

-- ---- a tank with the atom 0 (open) and the fluent 0 (level): while it is open the level rises by 2 in each unit of time,
-- and it is closed where it is open and the level is at least 5

abbrev pub at_least : ℕ → Condition
at_least n = Compare AtLeast (Fluent 0) (Number (number n)) true

abbrev pub tank_of : List Timed → Condition → Problem
tank_of timed goal = record {
  atoms = 1;
  fluents = 1;
  processes = record { label = []; condition = Atom 0 true; rates = record { fluent = 0; up = true; amount = Number (number 2) } ∷ [] } ∷ [];
  events = record { label = []; condition = Both (Atom 0 true) (Both (at_least 5) Always); effects = does (Delete 0) ∷ [] } ∷ [];
  timed = timed;
  initial = record { atoms = false ∷ []; fluents = Some (number 0) ∷ [] };
  goal = goal;
}

-- opened at 2, and closed at 3
abbrev pub literal_tank : Problem
literal_tank = tank_of (record { time = number 2; atom = 0; positive = true } ∷ record { time = number 3; atom = 0; positive = false } ∷ []) (at_least 2)

abbrev pub LiteralsRow : Type 0
LiteralsRow = SteppedPlan literal_tank (number 1) meant (Tick ∷ Tick ∷ Tick ∷ Tick ∷ [])

-- the goal asks for a level of 8 in a tank that is closed
abbrev pub overfull_tank : Problem
overfull_tank = tank_of [] (Both (Compare Same (Fluent 0) (Number (number 8)) true) (Both (Atom 0 false) Always))

abbrev pub open_valve : Action
open_valve = record { label = []; condition = Atom 0 false; effects = does (Add 0) ∷ [] }

abbrev pub OverfullRow : Type 0
OverfullRow = SteppedPlan overfull_tank (number 2) meant (Act (Instance open_valve) ∷ Tick ∷ Tick ∷ [])

-- ---- two fluents x, which is 1/2, and y, which is 3: x becomes y / 4 and y becomes y * x, both of the state before

abbrev pub mix : Action
mix = record { label = []; condition = Always; effects = does (Assign 0 (Quotient (Fluent 1) (Number (number 4)))) ∷ does (ScaleUp 1 (Fluent 0)) ∷ [] }

abbrev pub mixed_state : Fraction → Fraction → State
mixed_state x y = record { atoms = []; fluents = Some x ∷ Some y ∷ [] }

-- the goal asks for x = 3/4 and y = 3/2
abbrev pub mixed_goal : Condition
mixed_goal =
    Both (Compare Same (Fluent 0) (Number (over (pos 3) 4)) true)
    (Both (Compare Same (Fluent 1) (Number (over (pos 3) 2)) true) Always)

abbrev pub MixPlan : List Called → Type 0
MixPlan calls = NumericPlan meant mixed_goal (mixed_state (over (pos 1) 2) (number 3)) calls

abbrev pub MixRow : Type 0
MixRow = MixPlan (Instance mix ∷ [])

abbrev pub MixTwiceRow : Type 0
MixTwiceRow = MixPlan (Instance mix ∷ Instance mix ∷ []) → ⊥
