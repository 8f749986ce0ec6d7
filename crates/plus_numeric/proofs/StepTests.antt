-- A refused call of a plan without time: which test fails first, and that the ids which its verdict names are those of the pair.
use Rattle.std.proofs.Common.{◌≡◌, ℕ, ◌<◌, Bool, true, false, List, [], ◌∷◌, ◌++◌, map, length, refl, subst, sym, inl, inr}
use Rattle.std.specs.Prelude.{Result, Ok, Err}
use Rattle.plus_fraction.specs.Fraction.{Fraction}
use Rattle.plus_model.specs.Terms.{Action, Condition, State, Problem}
use Rattle.plus_model.specs.Value.{holds}
use Rattle.plus_model.specs.Joint as model
use Rattle.plus_model.specs.Joint.{joint}
use Rattle.plus_number.specs.declared.frac.Frac64.{Frac64}
use Rattle.plus_number.specs.Frac.{fraction_of, IsFrac64}
use Rattle.plus_state.specs.Fits.{ActionFits}
use Rattle.plus_state.specs.View.{overflow_of}
use Rattle.plus_state.specs.Tests.{tests_of}
use Rattle.plus_state.specs.Steps as steps
use Rattle.plus_state.specs.Steps.{Step, guarded, joint_steps}
use Rattle.plus_state.proofs.Testing.{fail_split, fails_here, none_fails, carry_from}
use Rattle.plus_state.proofs.JointLemmas.{joint_stops}
use Rattle.plus_state.specs.declared.outcome.Breach.{Breach}
use Rattle.plus_stepped.specs.declared.stop.StepStop.{StepStop}
use Rattle.plus_stepped.specs.declared.stop.StepStop.TheVariants as stops
use Rattle.plus_stepped.specs.Tests.{StepTest, asks, precondition, fails, repeats, goal, Passes, FirstFailing, of_step}
use Rattle.plus_stepped.specs.Asked.{unless, action_tests, goal_tests}
use Rattle.plus_stepped.specs.Told.{Told}
use Rattle.plus_stepped.proofs.Layers.{nodes_carry, steps_carry}
use Rattle.plus_report.specs.declared.verdicts.Verdict.{Verdict}
use Rattle.plus_report.specs.Verdicts.{BreachFits, VerdictFits}
use Rattle.plus_instances.proofs.Faults.{conflict_in, no_value_in}
use Rattle.plus_numeric.specs.declared.halt.Halt.{Halt}
use Rattle.plus_numeric.specs.declared.halt.Halt.TheVariants.{Refused, Memory}
use Rattle.plus_numeric.specs.Verdicts.{step_verdict}
use Rattle.plus_numeric.specs.Playing.{breach_seen, seen, stop_halt}

-- ---- the test that fails first

pub record IsTold (tests : List StepTest) (unmet : Breach Frac64) (v : Verdict Frac64) : Type 0 where
  pub test : StepTest
  pub first : FirstFailing IsFrac64 tests test
  pub is : seen v ≡ step_verdict (breach_seen unmet) test

abbrev pub IsToldBy : List StepTest → Breach Frac64 → Halt → Type 0
IsToldBy tests unmet (Refused v) = IsTold tests unmet v
IsToldBy tests unmet Memory = Unit {0}

pub told_by :
    {A : Type 0} (tests : List StepTest) (Done : A → Type 0) (Never : Type 0) (unmet : Breach Frac64) (stop : StepStop Frac64)
    → Told fraction_of IsFrac64 tests Done Never (Err stop) → IsToldBy tests unmet (stop_halt unmet stop)
told_by tests Done Never unmet stops.Precondition h = record { test = precondition; first = h.first; is = refl }
told_by tests Done Never unmet (stops.Repeats e) h = record { test = repeats e.0; first = h.first; is = refl }
told_by tests Done Never unmet (stops.Conflict f) h = record { test = fails (model.Conflict f.0); first = h.first; is = refl }
told_by tests Done Never unmet (stops.NoValue f) h = record { test = fails (model.NoValue f.0); first = h.first; is = refl }
told_by tests Done Never unmet (stops.Number o) h = record { test = asks (overflow_of fraction_of o); first = h; is = refl }
told_by tests Done Never unmet stops.GoalFails h = record { test = goal; first = h.first; is = refl }
told_by tests Done Never unmet stops.Memory h = tt

-- ---- which tests an action and a goal ask

abbrev OfAction : Action → State → StepTest → Type 0
OfAction a s (asks node) = Unit {0}
OfAction a s precondition = Unit {0}
OfAction a s (fails f) = joint a.effects s ≡ Err f
OfAction a s (repeats e) = ⊥
OfAction a s goal = ⊥

step_of_action : (a : Action) (s : State) (k : Step) → steps.FirstStop IsFrac64 (joint_steps a.effects s) k → OfAction a s (of_step k)
step_of_action a s (steps.asks node) h = tt
step_of_action a s (steps.fault f) h = joint_stops IsFrac64 a.effects s f h

precondition_fails : Passes IsFrac64 precondition → ⊥
unfolding Passes
precondition_fails h = h

abbrev behind_condition : Action → State → Bool → List StepTest
behind_condition a s b = unless b precondition ++ map of_step (guarded b (joint_steps a.effects s))

behind_asks : (a : Action) (s : State) (b : Bool) (t : StepTest) → FirstFailing IsFrac64 (behind_condition a s b) t → OfAction a s t
behind_asks a s false t h = subst (OfAction a s) (sym (fails_here (Passes IsFrac64) precondition t [] precondition_fails h)) tt
behind_asks a s true t h =
    let k = carry_from (steps_carry IsFrac64) (joint_steps a.effects s) t h in
    subst (OfAction a s) (sym k.1.1) (step_of_action a s k.0 k.1.0)

pub action_asks : (a : Action) (s : State) (t : StepTest) → FirstFailing IsFrac64 (action_tests a s) t → OfAction a s t
unfolding action_tests
action_asks a s t h = elim (fail_split (Passes IsFrac64) (map asks (tests_of a.condition s)) (behind_condition a s (holds a.condition s)) t h) [
  | inl x ↦ (let k = carry_from (nodes_carry IsFrac64) (tests_of a.condition s) t x in subst (OfAction a s) (sym k.1.1) tt)
  | inr y ↦ behind_asks a s (holds a.condition s) t y.1
]

abbrev OfGoal : StepTest → Type 0
OfGoal (asks node) = Unit {0}
OfGoal precondition = ⊥
OfGoal (fails f) = ⊥
OfGoal (repeats e) = ⊥
OfGoal goal = Unit {0}

goal_test_fails : Passes IsFrac64 goal → ⊥
unfolding Passes
goal_test_fails h = h

behind_goal : (b : Bool) (t : StepTest) → FirstFailing IsFrac64 (unless b goal) t → OfGoal t
behind_goal true t h = absurd (none_fails (Passes IsFrac64) t h)
behind_goal false t h = subst OfGoal (sym (fails_here (Passes IsFrac64) goal t [] goal_test_fails h)) tt

pub goal_asks : (c : Condition) (s : State) (t : StepTest) → FirstFailing IsFrac64 (goal_tests c s) t → OfGoal t
unfolding goal_tests
goal_asks c s t h = elim (fail_split (Passes IsFrac64) (map asks (tests_of c s)) (unless (holds c s) goal) t h) [
  | inl x ↦ (let k = carry_from (nodes_carry IsFrac64) (tests_of c s) t x in subst OfGoal (sym k.1.1) tt)
  | inr y ↦ behind_goal (holds c s) t y.1
]

-- ---- the ids of the verdict

abbrev pub Names : Problem → Halt → Type 0
Names P (Refused v) = VerdictFits P v
Names P Memory = Unit {0}

pub action_names :
    {A : Type 0} (P : Problem) (a : Action) (s : State) (Done : A → Type 0) (Never : Type 0) (unmet : Breach Frac64) (stop : StepStop Frac64)
    → ActionFits P.atoms P.fluents a → BreachFits P unmet → Told fraction_of IsFrac64 (action_tests a s) Done Never (Err stop) → Names P (stop_halt unmet stop)
action_names P a s Done Never unmet stops.Precondition f u h = u
action_names P a s Done Never unmet (stops.Repeats e) f u h = absurd (action_asks a s (repeats e.0) h.first)
action_names P a s Done Never unmet (stops.Conflict g) f u h =
    conflict_in a.effects s P.atoms P.fluents g.0 f.1 (action_asks a s (fails (model.Conflict g.0)) h.first)
action_names P a s Done Never unmet (stops.NoValue g) f u h =
    no_value_in a.effects s P.atoms P.fluents g.0 f.1 (action_asks a s (fails (model.NoValue g.0)) h.first)
action_names P a s Done Never unmet (stops.Number o) f u h = tt
action_names P a s Done Never unmet stops.GoalFails f u h = tt
action_names P a s Done Never unmet stops.Memory f u h = tt

pub goal_names :
    {A : Type 0} (P : Problem) (c : Condition) (s : State) (Done : A → Type 0) (Never : Type 0) (unmet : Breach Frac64) (stop : StepStop Frac64)
    → BreachFits P unmet → Told fraction_of IsFrac64 (goal_tests c s) Done Never (Err stop) → Names P (stop_halt unmet stop)
goal_names P c s Done Never unmet stops.Precondition u h = u
goal_names P c s Done Never unmet (stops.Repeats e) u h = absurd (goal_asks c s (repeats e.0) h.first)
goal_names P c s Done Never unmet (stops.Conflict g) u h = absurd (goal_asks c s (fails (model.Conflict g.0)) h.first)
goal_names P c s Done Never unmet (stops.NoValue g) u h = absurd (goal_asks c s (fails (model.NoValue g.0)) h.first)
goal_names P c s Done Never unmet (stops.Number o) u h = tt
goal_names P c s Done Never unmet stops.GoalFails u h = tt
goal_names P c s Done Never unmet stops.Memory u h = tt
