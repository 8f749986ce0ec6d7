-- What each action of the translation does, in terms of the old problem: the single steps on which the laws rest.
use Rattle.std.specs.Prelude.{◌≡◌, ℕ, suc, true, List, [], ◌++◌}
use Rattle.plus_fraction.specs.Fraction.{Fraction}
use Rattle.plus_model.specs.Terms.{Action, State, Problem}
use Rattle.plus_model.specs.Value.{holds}
use Rattle.plus_model.specs.Firing.{firing, IsRound}
use Rattle.plus_model.specs.Plan.{Called, Instance}
use Rattle.plus_state.specs.Fits.{StateFits}
use Rattle.plus_steps.specs.Stepped.{Does, Passes}
use Rattle.plus_steps.specs.Translation.{old_action, step_action, fire_action, goal_translated}
use Rattle.plus_steps.proofs.Pads.{pad}

-- from s, which was padded, the padded state t is reached ..
-- .. by an old action,
pub record OldDoes (P : Problem) (a : Action) (n : ℕ) (s t : State) : Type 0 where
  pub after : State
  pub still : firing P s ≡ []
  pub does : Does a s after
  pub is : t ≡ pad P [] n after

-- .. by a step,
pub record StepDoes (P : Problem) (q : Fraction) (n : ℕ) (s t : State) : Type 0 where
  pub after : State
  pub still : firing P s ≡ []
  pub passes : Passes P q (suc n) s after
  pub is : t ≡ pad P [] (suc n) after

-- .. by a round
pub record FireDoes (P : Problem) (fired : List ℕ) (n : ℕ) (s t : State) : Type 0 where
  pub after : State
  pub round : IsRound P fired s (firing P s) after
  pub is : t ≡ pad P (fired ++ firing P s) n after

pub record GoalStands (P : Problem) (s : State) : Type 0 where
  pub still : firing P s ≡ []
  pub goal : holds P.goal s ≡ true

pub record Mirrors {C : Type 0} (P : Problem) (q : Fraction) (meant : C → Called) : Type 0 where
  pub old : (call : C) (a : Action) → meant call ≡ Instance a → (fired : List ℕ) (n : ℕ) (s t : State) → StateFits P.atoms P.fluents s → Does (old_action P a) (pad P fired n s) t → OldDoes P a n s t
  pub old_back : (call : C) (a : Action) → meant call ≡ Instance a → (fired : List ℕ) (n : ℕ) (s t : State) → StateFits P.atoms P.fluents s → OldDoes P a n s t → Does (old_action P a) (pad P fired n s) t
  pub step : (fired : List ℕ) (n : ℕ) (s t : State) → StateFits P.atoms P.fluents s → Does (step_action P q) (pad P fired n s) t → StepDoes P q n s t
  pub step_back : (fired : List ℕ) (n : ℕ) (s t : State) → StateFits P.atoms P.fluents s → StepDoes P q n s t → Does (step_action P q) (pad P fired n s) t
  pub fire : (fired : List ℕ) (n : ℕ) (s t : State) → StateFits P.atoms P.fluents s → Does (fire_action P) (pad P fired n s) t → FireDoes P fired n s t
  pub fire_back : (fired : List ℕ) (n : ℕ) (s t : State) → StateFits P.atoms P.fluents s → FireDoes P fired n s t → Does (fire_action P) (pad P fired n s) t
  pub goal : (fired : List ℕ) (n : ℕ) (s : State) → StateFits P.atoms P.fluents s → holds (goal_translated P) (pad P fired n s) ≡ true → GoalStands P s
  pub goal_back : (fired : List ℕ) (n : ℕ) (s : State) → StateFits P.atoms P.fluents s → GoalStands P s → holds (goal_translated P) (pad P fired n s) ≡ true
