use Rattle.std.proofs.Common.{Bool, ◌≡◌, map, sym, subst}
use Rattle.std.specs.Prelude.{IfOk}
use Rattle.plus_number.specs.Frac.{fraction_of}
use Rattle.plus_planner.specs.Places.{task_from}
use Rattle.plus_state.specs.View.{problem_of, action_of}
use Rattle.plus_cut.specs.Lost.{lost_atoms}
use Rattle.plus_plan_command.specs.Planning.Planned.{cut_atoms}
use Rattle.plus_plan_command.proofs.planning.planning.cut_for.Goals as goal

pub returns-then-is_cut : goal.returns-then-is_cut
returns-then-is_cut c =
    let planner = c.args.planner.now in
    let P = problem_of fraction_of planner.problem in
    let task = task_from P (map (action_of fraction_of) planner.actions.items) (fraction_of planner.interval) in
    subst (λ (b : Bool). IfOk c.find.result (λ found. found.atoms.items ≡ cut_atoms b task)) (sym c.if-is_cut.true)
    (subst (λ xs. IfOk c.find.result (λ found. found.atoms.items ≡ lost_atoms P (map (action_of fraction_of) xs))) c.deref.ensures.value c.find.ensures)

pub returns-else-is_cut : goal.returns-else-is_cut
returns-else-is_cut c =
    let planner = c.args.planner.now in
    let task = task_from (problem_of fraction_of planner.problem) (map (action_of fraction_of) planner.actions.items) (fraction_of planner.interval) in
    subst (λ (b : Bool). c.new.result.items ≡ cut_atoms b task) (sym c.if-is_cut.false) c.new.ensures.items
