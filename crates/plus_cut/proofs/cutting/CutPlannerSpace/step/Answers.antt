use Rattle.std.proofs.Common.{◌++◌, ◌∷◌, [], map}
use Rattle.plus_state.specs.View.{problem_of, action_of}
use Rattle.plus_planner.specs.Places.{task_from, path_of}
use Rattle.plus_cut.specs.Cutting.{bounded}
use Rattle.plus_cut.proofs.Delegating.{fates_are, stands_on}
use Rattle.plus_cut.proofs.cutting.CutPlannerSpace.step.Goals as goal

pub step-requires-clause-stands : goal.step-requires-clause-stands
step-requires-clause-stands g c = c.requires.stands.holds

pub step-requires-clause-within : goal.step-requires-clause-within
step-requires-clause-within g c = c.requires.within

pub returns-clause-told : goal.returns-clause-told
returns-clause-told g c =
    let v = g.Q.Exact.value in
    let planner = c.args.self.now.planner in
    let task = task_from (problem_of v planner.problem) (map (action_of v) planner.actions.items) (v planner.interval) in
    fates_are g.Q.Exact.fits task (bounded (g.C.Cut.says c.args.self.now.cut)) (path_of c.args.place.now.taken.items ++ c.args.decision ∷ []) c.step.result c.step.ensures.told

pub returns-clause-path : goal.returns-clause-path
returns-clause-path g c = c.step.ensures.path

pub returns-clause-stands : goal.returns-clause-stands
returns-clause-stands g c =
    let v = g.Q.Exact.value in
    let planner = c.args.self.now.planner in
    let task = task_from (problem_of v planner.problem) (map (action_of v) planner.actions.items) (v planner.interval) in
    let place = c.step.new.place in
    stands_on g.Q.Exact.fits task (bounded (g.C.Cut.says c.args.self.now.cut)) place.start place.taken.items place.tried.items place.spares.items place.stepper.index c.step.result c.requires.stands.tree c.step.ensures.stands
