-- Each way out of an action, and of asking for the goal.
use Rattle.std.proofs.Common.{◌≡◌, ℕ, true, false, Bool, List, ◌++◌, map, sym, subst}
use Rattle.plus_fraction.specs.Fraction.{Fraction}
use Rattle.plus_model.specs.Terms.{Action, State, Problem}
use Rattle.plus_model.specs.Value.{holds}
use Rattle.plus_model.specs.Breach as model
use Rattle.plus_state.specs.Node.{Node}
use Rattle.plus_state.specs.Asked.{AllFit, FirstUnfit}
use Rattle.plus_state.specs.Tests.{tests_of}
use Rattle.plus_state.specs.Steps as steps
use Rattle.plus_state.specs.Steps.{Step, guarded, joint_steps}
use Rattle.plus_state.proofs.Testing.{pass_none, pass_append, fail_left, fail_right, fail_here, carry_pass, carry_fail}
use Rattle.plus_stretch.specs.Tests.{Test, asks, breach, Passes, AllPass, FirstFailing, of_step}
use Rattle.plus_timeline.specs.Asked.{unless, act_tests, goal_tests}
use Rattle.plus_stretch.proofs.Layers.{nodes_carry, steps_carry}

module _ (fits : Fraction → Type 0) (i : ℕ) (a : Action) (s : State) where
  -- what is asked behind the condition, by its truth
  abbrev then_asks : Bool → List Test
  then_asks b = unless b (model.Precondition i) ++ map of_step (guarded b (joint_steps a.effects s))

  pub condition_unfit : (m : Node) → FirstUnfit fits (tests_of a.condition s) m → FirstFailing fits (act_tests i a s) (asks m)
  unfolding act_tests
  condition_unfit m u = fail_left (Passes fits) _ _ _ (carry_fail (nodes_carry fits) _ m u)

  pub condition_fails : AllFit fits (tests_of a.condition s) → holds a.condition s ≡ false → FirstFailing fits (act_tests i a s) (breach (model.Precondition i))
  unfolding act_tests Passes
  condition_fails t h = fail_right (Passes fits) _ _ _ (carry_pass (nodes_carry fits) _ t)
      (subst (λ (b : Bool). FirstFailing fits (then_asks b) (breach (model.Precondition i))) (sym h) (fail_here (Passes fits) _ _ (λ z. z)))

  pub effects_fail : (m : Step) → AllFit fits (tests_of a.condition s) → holds a.condition s ≡ true → steps.FirstStop fits (joint_steps a.effects s) m → FirstFailing fits (act_tests i a s) (of_step m)
  unfolding act_tests
  effects_fail m t h u = fail_right (Passes fits) _ _ _ (carry_pass (nodes_carry fits) _ t)
      (subst (λ (b : Bool). FirstFailing fits (then_asks b) (of_step m)) (sym h) (carry_fail (steps_carry fits) _ m u))

  pub effects_pass : AllFit fits (tests_of a.condition s) → holds a.condition s ≡ true → steps.AllPass fits (joint_steps a.effects s) → AllPass fits (act_tests i a s)
  unfolding act_tests
  effects_pass t h u = pass_append (Passes fits) _ _ (carry_pass (nodes_carry fits) _ t)
      (subst (λ (b : Bool). AllPass fits (then_asks b)) (sym h) (carry_pass (steps_carry fits) _ u))

module _ (fits : Fraction → Type 0) (P : Problem) (s : State) where
  pub goal_unfit : (m : Node) → FirstUnfit fits (tests_of P.goal s) m → FirstFailing fits (goal_tests P s) (asks m)
  unfolding goal_tests
  goal_unfit m u = fail_left (Passes fits) _ _ _ (carry_fail (nodes_carry fits) _ m u)

  pub goal_fails : AllFit fits (tests_of P.goal s) → holds P.goal s ≡ false → FirstFailing fits (goal_tests P s) (breach model.Goal)
  unfolding goal_tests Passes
  goal_fails t h = fail_right (Passes fits) _ _ _ (carry_pass (nodes_carry fits) _ t)
      (subst (λ (b : Bool). FirstFailing fits (unless b model.Goal) (breach model.Goal)) (sym h) (fail_here (Passes fits) _ _ (λ z. z)))

  pub goal_holds : AllFit fits (tests_of P.goal s) → holds P.goal s ≡ true → AllPass fits (goal_tests P s)
  unfolding goal_tests
  goal_holds t h = pass_append (Passes fits) _ _ (carry_pass (nodes_carry fits) _ t)
      (subst (λ (b : Bool). AllPass fits (unless b model.Goal)) (sym h) (pass_none (Passes fits)))
