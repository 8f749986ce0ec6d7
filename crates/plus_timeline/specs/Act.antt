-- What `act` does, and why it is refused.
use Rattle.std.specs.Prelude.{◌≡◌, ℕ, true, false, List, None, Result, Ok, Err}
use Rattle.plus_fraction.specs.Fraction.{Fraction}
use Rattle.plus_model.specs.Terms.{Action, State, Problem}
use Rattle.plus_model.specs.Value.{holds}
use Rattle.plus_model.specs.Joint.{Fault, joint, NoValue as no_value, Conflict as conflict}
use Rattle.plus_model.specs.History.{view_after, Act}
use Rattle.plus_model.specs.Trajectory.{Acts}
use Rattle.plus_state.specs.declared.outcome.Breach.{Breach}
use Rattle.plus_state.specs.declared.outcome.Breach.TheVariants.{Precondition, Conflict, NoValue}
use Rattle.plus_timeline.specs.declared.stop.Stop.{Stop}
use Rattle.plus_timeline.specs.Timeline.{TimelineView}
use Rattle.plus_timeline.specs.Asked.{act_tests}
use Rattle.plus_timeline.specs.Told.{Told}

-- the action is done, and what follows is due anew
pub record DoesAct (P : Problem) (action : Action) (old new : TimelineView) : Type 0 where
  pub moment : old.now.running ≡ None
  pub after : State
  pub acts : Acts P old.now action after
  pub is :
      new
      ≡ record old {
        now = view_after old.now (Act old.now.acted after);
        before = old.now.state;
        acted = true;
      }

-- the condition does not hold; the breach names the line and the action
pub record ConditionFails (action : Action) (line : ℕ) (s : State) (named : ℕ) (label : List ℕ) : Type 0 where
  pub line_is : named ≡ line
  pub label_is : label ≡ action.label
  pub fails : holds action.condition s ≡ false

-- the condition holds, and there is no joint effect, for this reason
pub record EffectsFail (action : Action) (s : State) (why : Fault) : Type 0 where
  pub may : holds action.condition s ≡ true
  pub fails : joint action.effects s ≡ Err why

-- what a breach by an action means
abbrev pub BreaksAct : {Q : Type 0} → Action → ℕ → State → Breach Q → Type 0
BreaksAct action line s (Precondition named label) = ConditionFails action line s named label
BreaksAct action line s (Conflict f) = EffectsFail action s (conflict f.0)
BreaksAct action line s (NoValue f) = EffectsFail action s (no_value f.0)
BreaksAct action line s _ = ⊥

-- the condition holds, and this is the state after the joint effect
pub record ActsOn (action : Action) (s after : State) : Type 0 where
  pub may : holds action.condition s ≡ true
  pub effect : joint action.effects s ≡ Ok after

-- what the effect of an action tells, whatever was done before it
abbrev pub EffectTold : {Q A : Type 0} → (Q → Fraction) → (Fraction → Type 0) → Action → ℕ → State → (A → State) → Result A (Stop Q) → Type 0
EffectTold value fits action line s after result =
    (acted : ℕ) → Told value fits acted false (act_tests acted action s) (λ x. ActsOn action s (after x)) (BreaksAct action line s) result

-- what `act` tells
abbrev pub ActTold : {Q A : Type 0} → (Q → Fraction) → (Fraction → Type 0) → Problem → Action → ℕ → TimelineView → TimelineView → Result A (Stop Q) → Type 0
ActTold value fits P action line old new result =
    Told value fits old.now.acted old.ended (act_tests old.now.acted action old.now.state) (λ _. DoesAct P action old new) (BreaksAct action line old.now.state) result
