use Rattle.std.proofs.Common.{ap}
use Rattle.std.proofs.lemmas.Result.{err_from_is_err_and}
use Rattle.plus_number.specs.Frac.{fraction_of}
use Rattle.plus_state.specs.View.{problem_of, action_of}
use Rattle.plus_plan_command.proofs.PlanningLemmas.{planned, exits}
use Rattle.plus_plan_command.proofs.planning.planning.search.Goals as goal

pub returns-in_err-planner-clause-unplanned : goal.returns-in_err-planner-clause-unplanned
returns-in_err-planner-clause-unplanned c =
    let t = c.args.numbering.now.typed.now in
    let r = err_from_is_err_and c.from_residual.result c.from_residual.ensures.1 in
    exits t.domain t.problem c.from_residual.result c.in_err-planner.field-0.0 r.0 r.1 r.2 c.in_err-planner.ensures.refused

pub returns-in-Ok-clause-planned : goal.returns-in-Ok-clause-planned
returns-in-Ok-clause-planned c =
    let t = c.args.numbering.now.typed.now in
    let w = c.in_ok-planner.planner in
    planned (action_of fraction_of) t.domain t.problem (problem_of fraction_of w.problem) w.actions.items (fraction_of c.args.interval) (fraction_of w.interval)
    c.args.decisions c.args.tries c.args.is_cut c.in-Ok.answer c.in_ok-planner.ensures.problem c.in_ok-planner.ensures.actions (ap fraction_of c.in_ok-planner.ensures.interval)
    c.in_ok-planner.ensures.inside c.in-Ok.ensures.answers c.in-Ok.ensures.enough
