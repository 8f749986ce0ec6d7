use Rattle.std.proofs.Common.{map, length, sym, ◌∙◌, ap, subst}
use Rattle.plus_state.specs.View.{problem_of, action_of, condition_of}
use Rattle.plus_state.specs.Fits.{Fits}
use Rattle.plus_planner.specs.Places.{task_from, path_of}
use Rattle.plus_planner.proofs.Ending.{reaches, misses, unclear}
use Rattle.plus_planner.proofs.WorldLemmas.{ends_in, state_fits}
use Rattle.plus_planner.proofs.planner.PlannerSpace.goal.Goals as goal

pub holds-requires : goal.holds-requires
holds-requires g c =
    let v = g.Q.Exact.value in
    let task = task_from (problem_of v c.args.self.now.problem) (map (action_of v) c.args.self.now.actions.items) (v c.args.self.now.interval) in
    let f = state_fits g.Q.Exact.fits task c.args.place.now.start c.args.place.now.taken.items c.requires.stands.stands.behind c.now.result.now c.state.result.now c.now.ensures c.state.ensures.fits in
    let goal_cond = condition_of v c.args.self.now.problem.goal in
    subst (λ n. Fits n (length c.state.result.now.fluents) goal_cond) (sym f.atoms_fit)
    (subst (λ n. Fits task.problem.atoms n goal_cond) (sym f.fluents_fit) c.args.self.now.problem.fits.goal)

pub returns-in-Ok-true : goal.returns-in-Ok-true
returns-in-Ok-true g c =
    let v = g.Q.Exact.value in
    let task = task_from (problem_of v c.args.self.now.problem) (map (action_of v) c.args.self.now.actions.items) (v c.args.self.now.interval) in
    let s = c.state.result.now in
    reaches g.Q.Exact.fits task (path_of c.args.place.now.taken.items) s
    (ends_in g.Q.Exact.fits task c.args.place.now.start c.args.place.now.taken.items c.requires.stands.stands.behind s (c.state.ensures.state ∙ ap (λ t. t.now.state) c.now.ensures))
    c.in-Ok-true.ensures.0 (sym c.in-Ok-true.ensures.1 ∙ c.in-Ok-true.field-0-test)

pub returns-in-Ok-false : goal.returns-in-Ok-false
returns-in-Ok-false g c =
    let v = g.Q.Exact.value in
    let task = task_from (problem_of v c.args.self.now.problem) (map (action_of v) c.args.self.now.actions.items) (v c.args.self.now.interval) in
    let s = c.state.result.now in
    misses g.Q.Exact.fits task (path_of c.args.place.now.taken.items) s
    (ends_in g.Q.Exact.fits task c.args.place.now.start c.args.place.now.taken.items c.requires.stands.stands.behind s (c.state.ensures.state ∙ ap (λ t. t.now.state) c.now.ensures))
    c.in-Ok-false.ensures.0 (sym c.in-Ok-false.ensures.1 ∙ c.in-Ok-false.field-0-test)

pub returns-in-Err : goal.returns-in-Err
returns-in-Err g c =
    let v = g.Q.Exact.value in
    let task = task_from (problem_of v c.args.self.now.problem) (map (action_of v) c.args.self.now.actions.items) (v c.args.self.now.interval) in
    let s = c.state.result.now in
    unclear g.Q.Exact.fits task (path_of c.args.place.now.taken.items) s
    (ends_in g.Q.Exact.fits task c.args.place.now.start c.args.place.now.taken.items c.requires.stands.stands.behind s (c.state.ensures.state ∙ ap (λ t. t.now.state) c.now.ensures))
    _ c.in-Err.ensures
