-- The state at the end of a list, and the goal's test there.
use Rattle.std.proofs.Common.{◌≡◌, ℕ, true, false, List, sym, ap, subst, ◌∙◌}
use Rattle.plus_fraction.specs.Fraction.{Fraction}
use Rattle.plus_model.specs.Terms.{State}
use Rattle.plus_model.specs.Value.{holds}
use Rattle.plus_model.specs.Breach as model
use Rattle.plus_model.specs.Trajectory.{view_of}
use Rattle.plus_model.proofs.Longest.{worked_is_longest, one_longest}
use Rattle.plus_state.specs.Node.{Node}
use Rattle.plus_state.specs.Asked.{AllFit, FirstUnfit}
use Rattle.plus_state.specs.Tests.{tests_of}
use Rattle.plus_state.proofs.Testing.{one_test}
use Rattle.plus_stretch.specs.Tests.{asks, breach, Passes, AllPass, FirstFailing, IsLimit}
use Rattle.plus_timeline.specs.Asked.{goal_tests}
use Rattle.plus_timeline.proofs.Acted.{goal_unfit, goal_fails, goal_holds}
use Rattle.plus_planner.specs.Grid.{Task, timed, EndsIn, ReachesGoal, LeavesOpen}

pub one_end : (fits : Fraction → Type 0) (task : Task) (ds : List ℕ) (s t : State) → EndsIn fits task ds s → EndsIn fits task ds t → s ≡ t
one_end fits task ds s t a b =
    let e = one_longest task.problem (timed task ds) a.history b.history
    (worked_is_longest task.problem (timed task ds) a.history a.plays.prefix a.plays.worked)
    (worked_is_longest task.problem (timed task ds) b.history b.plays.prefix b.plays.worked) in
    a.state ∙ ap (λ h. (view_of task.problem h).state) e ∙ sym b.state

module _ (fits : Fraction → Type 0) (task : Task) (ds : List ℕ) (s : State) (e : EndsIn fits task ds s) where
  -- all that is asked of the goal there passes only where it holds
  no_pass : (t : _) → FirstFailing fits (goal_tests task.problem s) t → ReachesGoal fits task ds → ⊥
  no_pass t f r =
      (one_test (Passes fits)).none (goal_tests task.problem s) t
      (subst (λ z. AllPass fits (goal_tests task.problem z)) (one_end fits task ds r.state s r.ends e) r.goal) f

  pub reaches : AllFit fits (tests_of task.problem.goal s) → holds task.problem.goal s ≡ true → ReachesGoal fits task ds
  reaches a h = record { state = s; ends = e; goal = goal_holds fits task.problem s a h }

  pub misses : AllFit fits (tests_of task.problem.goal s) → holds task.problem.goal s ≡ false → (ReachesGoal fits task ds → ⊥) × (LeavesOpen fits task ds → ⊥)
  misses a h =
      let f = goal_fails fits task.problem s a h in (
        no_pass (breach model.Goal) f,
        (λ r. (let g = subst (λ z. FirstFailing fits (goal_tests task.problem z) r.test) (one_end fits task ds r.state s r.ends e) r.first in
            subst IsLimit ((one_test (Passes fits)).one (goal_tests task.problem s) r.test (breach model.Goal) g f) r.limit)),
      )

  pub unclear : (n : Node) → FirstUnfit fits (tests_of task.problem.goal s) n → (ReachesGoal fits task ds → ⊥) × LeavesOpen fits task ds
  unclear n u =
      let f = goal_unfit fits task.problem s n u in
      (no_pass (asks n) f, record { state = s; ends = e; test = asks n; first = f; limit = tt })
