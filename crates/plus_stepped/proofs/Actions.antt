-- Each way out of an action, and of asking for the goal.
use Rattle.std.proofs.Common.{◌≡◌, true, false, Bool, List, ◌++◌, map, refl, sym, subst, inl, inr}
use Rattle.std.specs.Prelude.{Ok, Err}
use Rattle.plus_fraction.specs.Fraction.{Fraction}
use Rattle.plus_model.specs.Terms.{Action, Condition, State}
use Rattle.plus_model.specs.Value.{holds}
use Rattle.plus_model.specs.Joint.{joint as joint_of}
use Rattle.plus_state.specs.Node.{Node}
use Rattle.plus_state.specs.Asked.{AllFit, FirstUnfit}
use Rattle.plus_state.specs.Tests.{tests_of}
use Rattle.plus_state.specs.Steps as steps
use Rattle.plus_state.specs.Steps.{Step, guarded, joint_steps}
use Rattle.plus_state.proofs.Testing.{pass_none, pass_append, fail_left, fail_right, fail_here, fail_split, carry_pass, carry_fail, carry_from}
use Rattle.plus_state.proofs.JointLemmas.{joint_stops}
use Rattle.plus_state.specs.View.{overflow_of}
use Rattle.plus_state.specs.Stops.{StopIs}
use Rattle.plus_state.specs.declared.outcome.JointStop.{JointStop}
use Rattle.plus_state.specs.declared.outcome.JointStop.TheVariants as joint
use Rattle.plus_model.specs.Joint as model
use Rattle.plus_stepped.specs.Stops.{of_joint}
use Rattle.plus_stepped.specs.Told.{Told}
use Rattle.plus_stepped.specs.Tests.{StepTest, asks, precondition, goal, Passes, AllPass, FirstFailing, IsBreach, of_step}
use Rattle.plus_stepped.specs.Asked.{unless, action_tests, goal_tests}
use Rattle.plus_stepped.specs.Never.{CannotDo}
use Rattle.plus_stepped.specs.Laws.{BreachIsNoAction}
use Rattle.plus_stepped.proofs.Layers.{nodes_carry, steps_carry}

-- the first of some nodes that does not fit is no breach
pub node_no_breach : (fits : Fraction → Type 0) (ns : List Node) (m : StepTest) → FirstFailing fits (map asks ns) m → IsBreach m → ⊥
node_no_breach fits ns m h b = let k = carry_from (nodes_carry fits) ns m h in subst IsBreach k.1.1 b

module _ (fits : Fraction → Type 0) (a : Action) (s : State) where
  -- what is asked behind the condition, by its truth
  abbrev then_asks : Bool → List StepTest
  then_asks b = unless b precondition ++ map of_step (guarded b (joint_steps a.effects s))

  pub condition_unfit : (m : Node) → FirstUnfit fits (tests_of a.condition s) m → FirstFailing fits (action_tests a s) (asks m)
  unfolding action_tests
  condition_unfit m u = fail_left (Passes fits) _ _ _ (carry_fail (nodes_carry fits) _ m u)

  pub condition_fails : AllFit fits (tests_of a.condition s) → holds a.condition s ≡ false → FirstFailing fits (action_tests a s) precondition
  unfolding action_tests Passes
  condition_fails t h = fail_right (Passes fits) _ _ _ (carry_pass (nodes_carry fits) _ t)
      (subst (λ (b : Bool). FirstFailing fits (then_asks b) precondition) (sym h) (fail_here (Passes fits) _ _ (λ z. z)))

  pub effects_fail : (m : Step) → AllFit fits (tests_of a.condition s) → holds a.condition s ≡ true → steps.FirstStop fits (joint_steps a.effects s) m → FirstFailing fits (action_tests a s) (of_step m)
  unfolding action_tests
  effects_fail m t h u = fail_right (Passes fits) _ _ _ (carry_pass (nodes_carry fits) _ t)
      (subst (λ (b : Bool). FirstFailing fits (then_asks b) (of_step m)) (sym h) (carry_fail (steps_carry fits) _ m u))

  pub effects_pass : AllFit fits (tests_of a.condition s) → holds a.condition s ≡ true → steps.AllPass fits (joint_steps a.effects s) → AllPass fits (action_tests a s)
  unfolding action_tests
  effects_pass t h u = pass_append (Passes fits) _ _ (carry_pass (nodes_carry fits) _ t)
      (subst (λ (b : Bool). AllPass fits (then_asks b)) (sym h) (carry_pass (steps_carry fits) _ u))

  -- a breach of the joint effect, or of the condition
  step_no_effect : (k : Step) (m : StepTest) → steps.FirstStop fits (joint_steps a.effects s) k → m ≡ of_step k → IsBreach m → (after : State) → joint_of a.effects s ≡ Ok after → ⊥
  step_no_effect (steps.asks n) m h e b after j = subst IsBreach e b
  step_no_effect (steps.fault f) m h e b after j =
      let g : joint_of a.effects s ≡ Err f = joint_stops fits a.effects s f h in
      cc

  then_no_action : (m : StepTest) (b : Bool) → holds a.condition s ≡ b → FirstFailing fits (then_asks b) m → IsBreach m → CannotDo a s
  then_no_action m false e h b after d = cc (e, d.may)
  then_no_action m true e h b after d =
      let k = carry_from (steps_carry fits) (joint_steps a.effects s) m h in
      step_no_effect k.0 m k.1.0 k.1.1 b after d.effect

  pub no_action : (m : StepTest) → FirstFailing fits (action_tests a s) m → IsBreach m → CannotDo a s
  unfolding action_tests
  no_action m h b after d = elim (fail_split (Passes fits) (map asks (tests_of a.condition s)) (then_asks (holds a.condition s)) m h) [
    | inl x ↦ node_no_breach fits (tests_of a.condition s) m x b
    | inr y ↦ then_no_action m (holds a.condition s) refl y.1 b after d
  ]

-- the joint effect is refused
pub effects_told : {Q A : Type 0} (v : Q → Fraction) (fits : Fraction → Type 0) (a : Action) (s : State) (Done : A → Type 0) (stop : JointStop Q) → AllFit fits (tests_of a.condition s) → holds a.condition s ≡ true → StopIs v fits (joint_steps a.effects s) stop
    → Told v fits (action_tests a s) Done (CannotDo a s) (Err (of_joint stop))
effects_told v fits a s Done (joint.Conflict f) t h u =
    let first = effects_fail fits a s (steps.fault (model.Conflict f.0)) t h u in
    record { first = first; never = no_action fits a s _ first tt }
effects_told v fits a s Done (joint.NoValue f) t h u =
    let first = effects_fail fits a s (steps.fault (model.NoValue f.0)) t h u in
    record { first = first; never = no_action fits a s _ first tt }
effects_told v fits a s Done (joint.Number o) t h u = effects_fail fits a s (steps.asks (overflow_of v o)) t h u
effects_told v fits a s Done joint.Memory t h u = tt

pub breach_is_no_action : (fits : Fraction → Type 0) → BreachIsNoAction fits
breach_is_no_action fits a s m h b = no_action fits a s m h b

module _ (fits : Fraction → Type 0) (c : Condition) (s : State) where
  pub goal_unfit : (m : Node) → FirstUnfit fits (tests_of c s) m → FirstFailing fits (goal_tests c s) (asks m)
  unfolding goal_tests
  goal_unfit m u = fail_left (Passes fits) _ _ _ (carry_fail (nodes_carry fits) _ m u)

  pub goal_fails : AllFit fits (tests_of c s) → holds c s ≡ false → FirstFailing fits (goal_tests c s) goal
  unfolding goal_tests Passes
  goal_fails t h = fail_right (Passes fits) _ _ _ (carry_pass (nodes_carry fits) _ t)
      (subst (λ (b : Bool). FirstFailing fits (unless b goal) goal) (sym h) (fail_here (Passes fits) _ _ (λ z. z)))

  pub goal_holds : AllFit fits (tests_of c s) → holds c s ≡ true → AllPass fits (goal_tests c s)
  unfolding goal_tests
  goal_holds t h = pass_append (Passes fits) _ _ (carry_pass (nodes_carry fits) _ t)
      (subst (λ (b : Bool). AllPass fits (unless b goal)) (sym h) (pass_none (Passes fits)))
