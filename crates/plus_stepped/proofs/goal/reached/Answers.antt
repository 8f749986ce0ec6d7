use Rattle.std.proofs.Common.{◌≡◌, true, false, sym, ◌∙◌}
use Rattle.std.proofs.lemmas.Result.{err_from_is_err_and}
use Rattle.plus_model.specs.Value.{holds}
use Rattle.plus_state.specs.View.{condition_of, overflow_of}
use Rattle.plus_stepped.proofs.Actions.{goal_unfit, goal_fails, goal_holds}
use Rattle.plus_stepped.proofs.goal.reached.Goals as goal

pub returns-in_err-holds-clause-told : goal.returns-in_err-holds-clause-told
returns-in_err-holds-clause-told g c =
    let p = err_from_is_err_and c.from_residual.result c.from_residual.ensures.1 in
    rw (p.1, p.2) (goal_unfit g.Q.Exact.fits (condition_of g.Q.Exact.value c.args.goal.now) c.args.state.now (overflow_of g.Q.Exact.value c.in_err-holds.field-0.0) c.in_err-holds.ensures)

pub returns-then-branch-clause-told : goal.returns-then-branch-clause-told
returns-then-branch-clause-told g c =
    let aim = condition_of g.Q.Exact.value c.args.goal.now in
    let h : holds aim c.args.state.now ≡ true = sym c.in_ok-holds.ensures.1 ∙ c.if-branch.true in
    record { pass = goal_holds g.Q.Exact.fits aim c.args.state.now c.in_ok-holds.ensures.0 h; does = h }

pub returns-else-branch-clause-told : goal.returns-else-branch-clause-told
returns-else-branch-clause-told g c =
    let aim = condition_of g.Q.Exact.value c.args.goal.now in
    let h : holds aim c.args.state.now ≡ false = sym c.in_ok-holds.ensures.1 ∙ c.if-branch.false in
    record { first = goal_fails g.Q.Exact.fits aim c.args.state.now c.in_ok-holds.ensures.0 h; never = λ k. cc (h, k) }
