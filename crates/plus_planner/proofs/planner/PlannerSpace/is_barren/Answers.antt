use Rattle.std.proofs.Common.{map}
use Rattle.plus_state.specs.View.{problem_of, action_of}
use Rattle.plus_planner.specs.Places.{task_from}
use Rattle.plus_planner.proofs.WorldLemmas.{never_yes}
use Rattle.plus_planner.proofs.planner.PlannerSpace.is_barren.Goals as goal

pub returns : goal.returns
returns g c =
    let v = g.Q.Exact.value in
    let task = task_from (problem_of v c.args.self.now.problem) (map (action_of v) c.args.self.now.actions.items) (v c.args.self.now.interval) in (
      (λ yes. cc yes),
      (λ b. absurd (never_yes g.Q.Exact.fits task c.args._place.now.start c.args._place.now.taken.items c.requires.stands.stands.behind c.args._left b)),
    )
