-- What the code's writes and stops mean.
use Rattle.std.specs.Prelude.{List, [], ◌∷◌, Option, Some, None, Result, MatchResult}
use Rattle.plus_fraction.specs.Fraction.{Fraction}
use Rattle.plus_model.specs.Joint as joint
use Rattle.plus_state.specs.declared.due.Update as code
use Rattle.plus_state.specs.declared.due.Due as due
use Rattle.plus_state.specs.declared.due.Due.TheVariants.{Put, Set}
use Rattle.plus_state.specs.declared.due.WriteStop.{WriteStop}
use Rattle.plus_state.specs.declared.due.WriteStop.TheVariants as write_stop
use Rattle.plus_state.specs.declared.outcome.JointStop.{JointStop}
use Rattle.plus_state.specs.declared.outcome.JointStop.TheVariants.{Conflict, NoValue, Number, Memory}
use Rattle.plus_state.specs.View.{overflow_of}
use Rattle.plus_state.specs.Due.{Update, Due, puts, updates}
use Rattle.plus_state.specs.Steps.{Step, asks, fault, FirstStop, AllPass}

abbrev pub update_of : {Q : Type 0} → (Q → Fraction) → code.Update Q → Update
update_of v u = record { op = u.op; amount = v u.amount }

abbrev pub due_of : {Q : Type 0} → (Q → Fraction) → due.Due Q → Due
due_of v (Put a b) = puts a.0 b
due_of v (Set f u) = updates f.0 (update_of v u)

abbrev pub as_list : {A : Type 0} → Option A → List A
as_list None = []
as_list (Some x) = x ∷ []

abbrev pub write_stop_of : {Q : Type 0} → (Q → Fraction) → WriteStop Q → Step
write_stop_of v (write_stop.NoValue f) = fault (joint.NoValue f.0)
write_stop_of v (write_stop.Number o) = asks (overflow_of v o)

-- the stop of one effect as that of the joint effect
abbrev pub joint_stop_of : {Q : Type 0} → WriteStop Q → JointStop Q
joint_stop_of (write_stop.NoValue f) = NoValue f
joint_stop_of (write_stop.Number o) = Number o

-- the stop is the first of these steps that stops; want of memory may come at any time
abbrev pub StopIs : {Q : Type 0} → (Q → Fraction) → (Fraction → Type 0) → List Step → JointStop Q → Type 0
StopIs v fits ns (Conflict f) = FirstStop fits ns (fault (joint.Conflict f.0))
StopIs v fits ns (NoValue f) = FirstStop fits ns (fault (joint.NoValue f.0))
StopIs v fits ns (Number o) = FirstStop fits ns (asks (overflow_of v o))
StopIs v fits ns Memory = Unit {0}

-- all steps pass and the value is meant, or the first step that stops
abbrev pub Does : {Q A : Type 0} → (Q → Fraction) → (Fraction → Type 0) → List Step → (A → Type 0) → Result A (WriteStop Q) → Type 0
Does v fits ns ok r = MatchResult r (λ x. AllPass fits ns × ok x) (λ e. FirstStop fits ns (write_stop_of v e))

abbrev pub DoesJointly : {Q A : Type 0} → (Q → Fraction) → (Fraction → Type 0) → List Step → (A → Type 0) → Result A (JointStop Q) → Type 0
DoesJointly v fits ns ok r = MatchResult r (λ x. AllPass fits ns × ok x) (λ e. StopIs v fits ns e)
