-- A plan on the grid is a plan.
use Rattle.std.proofs.Common.{◌≡◌, inr, Bool, true, false, [], map, refl, sym, subst}
use Rattle.std.proofs.lemmas.List.{append-nil}
use Rattle.plus_fraction.specs.Fraction.{Fraction}
use Rattle.plus_model.specs.Terms.{State, Problem}
use Rattle.plus_model.specs.Value.{holds}
use Rattle.plus_model.specs.Breach as model
use Rattle.plus_model.proofs.Later.{prefix_goes_on}
use Rattle.plus_state.specs.Tests.{tests_of}
use Rattle.plus_state.specs.Tested as tested
use Rattle.plus_state.proofs.Testing.{pass_right}
use Rattle.plus_stretch.specs.Tests.{asks, Passes, AllPass}
use Rattle.plus_timeline.specs.Asked.{goal_tests, unless}
use Rattle.plus_planner.specs.Grid.{timed}
use Rattle.plus_planner.specs.Laws.{GridPlanIsPlan, whole_plan}

told : (fits : Fraction → Type 0) (b : Bool) → AllPass fits (unless b model.Goal) → b ≡ true
unfolding tested.AllPass Passes
told fits true h = refl
told fits false h = absurd h.0

pub goal_holds : (fits : Fraction → Type 0) (P : Problem) (s : State) → AllPass fits (goal_tests P s) → holds P.goal s ≡ true
unfolding goal_tests
goal_holds fits P s h = told fits (holds P.goal s) (pass_right (Passes fits) (map asks (tests_of P.goal s)) (unless (holds P.goal s) model.Goal) h)

pub grid_plan_is_plan : (fits : Fraction → Type 0) → GridPlanIsPlan fits
grid_plan_is_plan fits task k ds p =
    let e = p.goal.ends in
    let a = e.plays in (
      e.history,
      record {
        prefix = prefix_goes_on task.problem (timed task ds) (whole_plan task ds) e.history a.prefix record { more = []; lines = sym (append-nil _) } a.prefix.ordered (inr refl);
        closed = refl;
        worked = record { acted = a.worked.acted; still = a.worked.still; moment = a.worked.moment; over = a.worked.over };
        goal = subst (λ s. holds task.problem.goal s ≡ true) e.state (goal_holds fits task.problem p.goal.state p.goal.goal);
      },
    )
