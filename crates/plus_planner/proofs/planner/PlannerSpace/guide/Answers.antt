use Rattle.std.proofs.Common.{map}
use Rattle.plus_state.specs.View.{problem_of, action_of}
use Rattle.plus_planner.specs.Places.{task_from}
use Rattle.plus_planner.proofs.WorldLemmas.{state_fits}
use Rattle.plus_planner.proofs.planner.PlannerSpace.guide.Goals as goal

pub number-requires : goal.number-requires
number-requires g c =
    let v = g.Q.Exact.value in
    let task = task_from (problem_of v c.args.self.now.problem) (map (action_of v) c.args.self.now.actions.items) (v c.args.self.now.interval) in
    state_fits g.Q.Exact.fits task c.args.place.now.start c.args.place.now.taken.items c.requires.stands.stands.behind c.now.result.now c.state.result.now c.now.ensures c.state.ensures.fits
