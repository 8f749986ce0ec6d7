use Rattle.std.proofs.lemmas.Result.{err_from_is_err_and}
use Rattle.plus_number.specs.Frac.{fraction_of}
use Rattle.plus_state.specs.View.{problem_of, action_of}
use Rattle.plus_plan_command.proofs.PlanningLemmas.{can_search, ungrounded, without_actions, exits}
use Rattle.plus_plan_command.proofs.planning.planning.planner.Goals as goal

pub new-requires : goal.new-requires
new-requires c =
    let t = c.args.numbering.now.typed.now in
    record {
      can = can_search (action_of fraction_of) (problem_of fraction_of c.in_ok-problem.problem) t.domain t.problem c.in_ok-actions.actions.items (fraction_of c.args.interval)
          c.in_ok-problem.ensures.expands c.in_ok-actions.ensures.fit c.in_ok-actions.ensures.few c.requires;
    }

pub returns-in_err-problem-clause-refused : goal.returns-in_err-problem-clause-refused
returns-in_err-problem-clause-refused c =
    let t = c.args.numbering.now.typed.now in
    let r = err_from_is_err_and c.from_residual.result c.from_residual.ensures.1 in
    exits t.domain t.problem c.from_residual.result c.in_err-problem.field-0.0 r.0 r.1 r.2 (ungrounded t.domain t.problem c.in_err-problem.field-0.0 c.in_err-problem.ensures.limits)

pub returns-in_err-actions-clause-refused : goal.returns-in_err-actions-clause-refused
returns-in_err-actions-clause-refused c =
    let t = c.args.numbering.now.typed.now in
    let r = err_from_is_err_and c.from_residual-in_err-actions.result c.from_residual-in_err-actions.ensures.1 in
    exits t.domain t.problem c.from_residual-in_err-actions.result c.in_err-actions.field-0.0 r.0 r.1 r.2
    (without_actions t.domain t.problem c.in_err-actions.field-0.0 c.in_ok-problem.ensures.limits c.in_err-actions.ensures.limits)
