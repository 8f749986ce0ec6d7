-- The tests that are asked of a plan at a history, in one type.
use Rattle.std.specs.Prelude.{◌≡◌, ℕ, Bool, true, false, List, Option, Some, None}
use Rattle.plus_fraction.specs.Fraction.{Fraction}
use Rattle.plus_model.specs.Breach as model
use Rattle.plus_model.specs.Breach.{Breach}
use Rattle.plus_model.specs.Joint as joint
use Rattle.plus_state.specs.declared.outcome.Owner.{Owner}
use Rattle.plus_state.specs.declared.outcome.Owner.TheVariants.{Event, Process}
use Rattle.plus_state.specs.declared.outcome.Breach.{Breach as Broken}
use Rattle.plus_state.specs.declared.outcome.Breach.TheVariants as code
use Rattle.plus_state.specs.declared.outcome.Limit.{Limit}
use Rattle.plus_state.specs.declared.outcome.Limit.TheVariants.{Happenings, Number, Nonlinear}
use Rattle.plus_state.specs.Node.{Node}
use Rattle.plus_state.specs.Tested as tested
use Rattle.plus_state.specs.Asked.{NodeFits}
use Rattle.plus_state.specs.View.{overflow_of}
use Rattle.plus_state.specs.Steps as steps
use Rattle.plus_state.specs.Steps.{Step}
use Rattle.plus_crossing.specs.Asked as crossing
use Rattle.plus_crossing.specs.Asked.{Ask}
use Rattle.plus_settle.specs.Steps as settle
use Rattle.plus_settle.specs.Steps.{SettleStep}

-- whose condition a comparison stands in, by its number
pub data Whose : Type 0 where
  event process : ℕ → Whose

-- A node passes where its exact result is a value of the number type; a product or a quotient in a comparison, by its owner
-- and its number, where it is linear. All others are listed only where they fail: that all allowed entries are done; that the
-- instance of an action has more nodes than are allowed; that a literal of its action, by its first byte in the domain and
-- the one behind its last, is no value of the number type; and a breach.
pub data Test : Type 0 where
  asks : Node → Test
  straight : Whose → ℕ → Bool → Test
  full : ℕ → Test
  too_many_nodes : ℕ → Test
  no_number : ℕ → ℕ → Test
  breach : Breach → Test

unfoldable pub Passes : (Fraction → Type 0) → Test → Type 0
Passes fits (asks n) = NodeFits fits n
Passes fits (straight w k b) = b ≡ true
Passes fits (full n) = ⊥
Passes fits (too_many_nodes n) = ⊥
Passes fits (no_number start last) = ⊥
Passes fits (breach b) = ⊥

-- no test fails
abbrev pub AllPass : (Fraction → Type 0) → List Test → Type 0
AllPass fits ts = tested.AllPass (Passes fits) ts

-- the first test that fails
abbrev pub FirstFailing : (Fraction → Type 0) → List Test → Test → Type 0
FirstFailing fits ts m = tested.FirstFailing (Passes fits) ts m

-- it is a limit, and not a breach
abbrev pub IsLimit : Test → Type 0
IsLimit (breach b) = ⊥
IsLimit _ = Unit {0}

-- the tests of the layers below
abbrev pub of_ask : Whose → Ask → Test
of_ask w (crossing.asks n) = asks n
of_ask w (crossing.straight k b) = straight w k b

abbrev pub of_fault : joint.Fault → Test
of_fault (joint.NoValue f) = breach (model.NoValue f)
of_fault (joint.Conflict f) = breach (model.Conflict f)

abbrev pub of_step : Step → Test
of_step (steps.asks n) = asks n
of_step (steps.fault f) = of_fault f

abbrev pub of_settle : SettleStep → Test
of_settle (settle.asks n) = asks n
of_settle (settle.straight p k b) = straight (process p) k b
of_settle (settle.no_value f) = breach (model.NoValue f)
of_settle (settle.unsettled p) = breach (model.Unsettled p)
of_settle (settle.coupled p f) = breach (model.Coupled p f)

-- the test that a limit of the code names
abbrev pub whose : Owner → Whose
whose (Event e) = event e.0
whose (Process p) = process p.0

abbrev pub of_limit : {Q : Type 0} → (Q → Fraction) → Limit Q → Test
of_limit v (Happenings n) = full n
of_limit v (Number o) = asks (overflow_of v o)
of_limit v (Nonlinear owner k) = straight (whose owner) k false

-- the breach that a breach of the code names, where it is one of a history
abbrev pub breach_of : {Q : Type 0} → (Q → Fraction) → ℕ → Broken Q → Option Breach
breach_of value acted (code.UnknownAction line name) = Some (model.UnknownAction acted name)
breach_of value acted (code.WrongArguments line name) = Some (model.WrongArguments acted name)
breach_of value acted (code.Precondition line label) = Some (model.Precondition acted)
breach_of value acted (code.TimeGoesBack line) = None
breach_of value acted (code.AfterEnd line) = None
breach_of value acted (code.Conflict f) = Some (model.Conflict f.0)
breach_of value acted (code.NoValue f) = Some (model.NoValue f.0)
breach_of value acted (code.Repeats e) = Some (model.Repeats e.0)
breach_of value acted (code.Unsettled p) = Some (model.Unsettled p.0)
breach_of value acted (code.Coupled p f) = Some (model.Coupled p.0 f.0)
breach_of value acted (code.NoFirstMoment e t) = Some (model.NoFirstMoment e.0 (value t))
breach_of value acted code.Goal = Some model.Goal
