use Rattle.std.proofs.Common.{arith}
use Rattle.plus_state.specs.View.{action_of}
use Rattle.plus_planner.proofs.DecidingLemmas.{length_mapped}
use Rattle.plus_planner.proofs.planner.PlannerSpace.width.Goals as goal

pub overflow_cast-result : goal.overflow_cast-result
overflow_cast-result g c =
    let few = c.args.self.now.can.few in
    let same = length_mapped (action_of g.Q.Exact.value) c.args.self.now.actions.items in
    omega (arith, c.len.ensures)

pub overflow_add-result : goal.overflow_add-result
overflow_add-result g c =
    let few = c.args.self.now.can.few in
    let same = length_mapped (action_of g.Q.Exact.value) c.args.self.now.actions.items in
    omega (arith, c.len.ensures)

pub returns : goal.returns
returns g c =
    let same = length_mapped (action_of g.Q.Exact.value) c.args.self.now.actions.items in
    omega (arith, c.len.ensures)
