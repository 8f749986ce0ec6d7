-- Worked rows of what conditions and joint effects ask, in one state: atom 0 holds and atom 1 does not, fluent 0 is 2 and
-- fluent 1 has no value.
use Rattle.std.specs.Prelude.{◌≡◌, ℕ, true, false, List, [], ◌∷◌, Some, None, pos}
use Rattle.plus_fraction.specs.Fraction.{Fraction, whole, ◌+ℚ◌}
use Rattle.plus_model.specs.Terms.{Number, Fluent, Sum, Quotient, Condition, Always, Never, Both, Either, Atom, Compare, AtLeast, State, Write, Add, Delete, Assign, Increase, Decrease, ScaleDown, Effect}
use Rattle.plus_model.specs.Joint.{NoValue, Conflict}
use Rattle.plus_state.specs.declared.term.Sign.TheVariants.{Plus, Minus}
use Rattle.plus_state.specs.Asked.{node}
use Rattle.plus_state.specs.Tests.{tests_of}
use Rattle.plus_state.specs.Due.{dues, after_dues}
use Rattle.plus_state.specs.Steps.{asks, fault, joint_steps}

abbrev pub zero : Fraction
zero = whole (pos 0)

abbrev pub two : Fraction
two = whole (pos 2)

abbrev pub at : State
at = record { atoms = true ∷ false ∷ []; fluents = Some two ∷ None ∷ [] }

-- fluent + 2 >= 2
abbrev pub high : ℕ → Condition
high f = Compare AtLeast (Sum (Fluent f) (Number two)) (Number two) true

pub record ConditionRows : Type 0 where
  -- an atom that holds is dropped, and all comparisons are asked, the second too
  pub all_asked : tests_of (Both (Atom 0 true) (Both (high 0) (Both (high 0) Always))) at ≡ node Plus two two ∷ node Plus two two ∷ []
  -- a false atom decides the whole, also behind a comparison
  pub none_asked : tests_of (Both (high 0) (Both (Atom 1 true) Always)) at ≡ []
  -- a member that an atom decides is dropped inside
  pub inner_dropped : tests_of (Either (Both (high 0) (Both (Atom 1 true) Always)) (Either (high 0) Never)) at ≡ node Plus two two ∷ []
  -- a fluent without value asks no node, and the right side is then not asked
  pub no_value : tests_of (Compare AtLeast (Fluent 1) (Sum (Fluent 0) (Number two)) true) at ≡ []
  -- a division by zero asks no node
  pub no_divisor : tests_of (Compare AtLeast (Quotient (Number two) (Number zero)) (Number two) true) at ≡ []

-- writes without a guard
abbrev pub plainly : List Write → List Effect
plainly [] = []
plainly (w ∷ ws) = record { guard = Always; write = w } ∷ plainly ws

abbrev pub by_two : Write
by_two = Increase 0 (Number two)

pub record JointRows : Type 0 where
  -- two moves of one fluent are nodes at the end, write by write
  pub moves : joint_steps (plainly (by_two ∷ Decrease 0 (Number zero) ∷ [])) at ≡ asks (node Plus two two) ∷ asks (node Minus (two +ℚ two) zero) ∷ []
  -- an amount is asked when the effect is added, before any write
  pub amount : joint_steps (plainly (by_two ∷ Assign 1 (Sum (Number two) (Number zero)) ∷ [])) at ≡ asks (node Plus two zero) ∷ asks (node Plus two two) ∷ []
  -- a write whose guard does not hold asks nothing
  pub guarded : joint_steps (record { guard = Atom 1 true; write = by_two } ∷ []) at ≡ []
  -- an assignment and a move clash
  pub conflict : joint_steps (plainly (by_two ∷ Assign 0 (Number two) ∷ [])) at ≡ fault (Conflict 0) ∷ asks (node Plus two two) ∷ []
  -- a move of a fluent without value
  pub missing : joint_steps (plainly (Increase 1 (Number two) ∷ [])) at ≡ fault (NoValue 1) ∷ []
  -- a division by zero
  pub by_zero : joint_steps (plainly (ScaleDown 0 (Number zero) ∷ [])) at ≡ fault (NoValue 0) ∷ []
  -- an atom that is added and deleted is true, in either order
  pub added : after_dues (dues (plainly (Add 1 ∷ Delete 1 ∷ Delete 0 ∷ [])) at) at ≡ record at { atoms = false ∷ true ∷ [] }
