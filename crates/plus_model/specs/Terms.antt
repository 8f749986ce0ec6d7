-- The ground problem: what is left of a PDDL+ domain and problem once every variable is replaced by
-- objects. It is the language of Fox and Long (2003, levels 1 and 2) with the processes and events
-- of Fox and Long (2006) and the timed initial literals of Edelkamp and Hoffmann (2004). Ground
-- atoms and ground fluents have numbers: the places of their values in a state. Processes and
-- events are known by their places in their lists, which are in ground order (the order of the
-- schemas in the text, and for one schema the order of its argument tuples). All numbers are
-- fractions of any size: the meaning knows no rounding and no overflow.
use Rattle.std.specs.Prelude.{ℕ, Bool, List, Option}
use Rattle.plus_fraction.specs.Fraction.{Fraction}

-- an arithmetic expression over numbers and ground fluents
pub data Expression : Type 0 where
  Number : Fraction → Expression
  Fluent : ℕ → Expression
  Sum Difference Product Quotient : Expression → Expression → Expression

-- the relation of a comparison: <, <=, =, >= and >
pub data Test : Type 0 where
  Below AtMost Same AtLeast Above : Test

-- A condition. Negations stand at the leaves alone: `Atom a false` is `(not a)`, and `Compare test
-- l r false` is the negation of the comparison, which is not the opposite comparison where a side
-- has no value. `(and c d)` is Both c (Both d Always), and `(or c d)` is Either c (Either d Never);
-- quantifiers are expanded to these.
pub data Condition : Type 0 where
  Always Never : Condition
  Both Either : Condition → Condition → Condition
  Atom : ℕ → Bool → Condition
  Compare : Test → Expression → Expression → Bool → Condition

-- one change that an effect asks for; the amount is read in the state before it
pub data Write : Type 0 where
  Add Delete : ℕ → Write
  Assign Increase Decrease ScaleUp ScaleDown : ℕ → Expression → Write

-- a write that is done where the guard holds: `(when guard write)`; without a `when` the guard is
-- Always
pub record Effect : Type 0 where
  pub guard : Condition
  pub write : Write

-- a continuous effect `(increase (f) (* #t amount))` or, where `up` is false, `(decrease (f) (* #t
-- amount))`: the fluent goes up, or down, by this amount in each unit of time
pub record Rate : Type 0 where
  pub fluent : ℕ
  pub up : Bool
  pub amount : Expression

-- what a plan line may call; the label is its printed form as bytes, and has no part in the meaning
pub record Action : Type 0 where
  pub label : List ℕ
  pub condition : Condition
  pub effects : List Effect

-- what the world does, at once, wherever the condition holds
pub record Event : Type 0 where
  pub label : List ℕ
  pub condition : Condition
  pub effects : List Effect

-- what the world does as time passes, while the condition holds
pub record Process : Type 0 where
  pub label : List ℕ
  pub condition : Condition
  pub rates : List Rate

-- a timed initial literal: at this time the atom is set, or where `positive` is false cleared
pub record Timed : Type 0 where
  pub time : Fraction
  pub atom : ℕ
  pub positive : Bool

-- a state: one truth for each ground atom, and a value or none for each ground fluent
pub record State : Type 0 where
  pub atoms : List Bool
  pub fluents : List (Option Fraction)

-- the ground problem; `atoms` and `fluents` are how many ground atoms and ground fluents there are
pub record Problem : Type 0 where
  pub atoms : ℕ
  pub fluents : ℕ
  pub processes : List Process
  pub events : List Event
  pub timed : List Timed
  pub initial : State
  pub goal : Condition
