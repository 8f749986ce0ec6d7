-- What a joint effect answers, over the model's joint effect.
use Rattle.std.specs.Prelude.{◌≡◌, List, Result, Ok, Err, MatchResult}
use Rattle.plus_fraction.specs.Fraction.{Fraction}
use Rattle.plus_model.specs.Terms.{Effect, State}
use Rattle.plus_model.specs.Joint as model
use Rattle.plus_model.specs.Joint.{joint}
use Rattle.plus_state.specs.declared.outcome.JointStop.{JointStop}
use Rattle.plus_state.specs.declared.outcome.JointStop.TheVariants.{Conflict, NoValue, Number, Memory}
use Rattle.plus_state.specs.Changes.{Changes, patched}
use Rattle.plus_state.specs.Steps.{AllPass, joint_steps}
use Rattle.plus_state.specs.Stops.{StopIs}

-- there is no joint effect, because of this fault; a number that does not fit and want of memory say nothing of it
abbrev pub NoJoint : {Q : Type 0} → List Effect → State → JointStop Q → Type 0
NoJoint es s (Conflict f) = joint es s ≡ Err (model.Conflict f.0)
NoJoint es s (NoValue f) = joint es s ≡ Err (model.NoValue f.0)
NoJoint es s (Number o) = Unit {0}
NoJoint es s Memory = Unit {0}

-- all steps pass, and the state is that after the joint effect; or the first step that stops
abbrev pub Applies : {Q : Type 0} → (Q → Fraction) → (Fraction → Type 0) → List Effect → State → Result State (JointStop Q) → Type 0
Applies v fits es s r =
    MatchResult r (λ t. AllPass fits (joint_steps es s) × (joint es s ≡ Ok t)) (λ e. StopIs v fits (joint_steps es s) e × NoJoint es s e)

-- all steps pass, and the state with these changes is that after the joint effect; or the first step that stops
abbrev pub ChangesJointly : {Q : Type 0} → (Q → Fraction) → (Fraction → Type 0) → List Effect → State → Result Changes (JointStop Q) → Type 0
ChangesJointly v fits es s r =
    MatchResult r (λ c. AllPass fits (joint_steps es s) × (joint es s ≡ Ok (patched s c))) (λ e. StopIs v fits (joint_steps es s) e × NoJoint es s e)

-- the same of these changes, which the call leaves
abbrev pub LeavesJointly : {Q A : Type 0} → (Q → Fraction) → (Fraction → Type 0) → List Effect → State → Changes → Result A (JointStop Q) → Type 0
LeavesJointly v fits es s c r =
    MatchResult r (λ _. AllPass fits (joint_steps es s) × (joint es s ≡ Ok (patched s c))) (λ e. StopIs v fits (joint_steps es s) e × NoJoint es s e)
