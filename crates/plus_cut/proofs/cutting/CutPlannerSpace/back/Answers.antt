use Rattle.std.proofs.Common.{map}
use Rattle.plus_state.specs.View.{problem_of, action_of}
use Rattle.plus_planner.specs.Places.{task_from}
use Rattle.plus_cut.specs.Cutting.{bounded}
use Rattle.plus_cut.proofs.Delegating.{stands_on}
use Rattle.plus_cut.proofs.cutting.CutPlannerSpace.back.Goals as goal

pub back-requires-clause-stands : goal.back-requires-clause-stands
back-requires-clause-stands g c = c.requires.stands.holds

pub back-requires-clause-some : goal.back-requires-clause-some
back-requires-clause-some g c = c.requires.some

pub returns-clause-path : goal.returns-clause-path
returns-clause-path g c = c.back.ensures.path

pub returns-clause-stands : goal.returns-clause-stands
returns-clause-stands g c =
    let v = g.Q.Exact.value in
    let planner = c.args.self.now.planner in
    let task = task_from (problem_of v planner.problem) (map (action_of v) planner.actions.items) (v planner.interval) in
    let place = c.back.new.place in
    stands_on g.Q.Exact.fits task (bounded (g.C.Cut.says c.args.self.now.cut)) place.start place.taken.items place.tried.items place.spares.items place.stepper.index c.back.result c.requires.stands.tree c.back.ensures.stands
