use Rattle.std.proofs.Common.{subst}
use Rattle.std.specs.Prelude.{Err}
use Rattle.std.proofs.lemmas.Result.{err_from_is_err_and}
use Rattle.plus_state.specs.View.{problem_of, action_of}
use Rattle.plus_stepped.specs.Ticks.{act_tests}
use Rattle.plus_stepped.specs.Told.{Told}
use Rattle.plus_stepped.specs.Steps.{SteppedView, Acts, CannotAct}
use Rattle.plus_stepped.proofs.stepped.Stepped.act.Goals as goal

pub returns-in_err-self-inside-clause-told : goal.returns-in_err-self-inside-clause-told
returns-in_err-self-inside-clause-told g c =
    let P = problem_of g.Q.Exact.value c.args.ground.now in
    let a = action_of g.Q.Exact.value c.args.action.now in
    let p = err_from_is_err_and c.from_residual.result c.from_residual.ensures.1 in
    rw (p.1, p.2)
    (subst (λ (s : SteppedView). Told g.Q.Exact.value g.Q.Exact.fits (act_tests P a s.state) (λ (x : Unit {0}). Acts P a s s) (CannotAct P a s.state) (Err c.in_err-self-inside.field-0.0)) c.self.view_is c.in_err-self-inside.ensures.told)
