use Rattle.std.proofs.lemmas.Result.{err_from_is_err_and}
use Rattle.plus_actions.proofs.CountingLemmas.{refused}
use Rattle.plus_actions.proofs.actions.test.Goals as goal

pub returns-in_err-within : goal.returns-in_err-within
returns-in_err-within g c =
    let t = c.args.numbering.now.typed.now in
    let p = err_from_is_err_and c.from_residual.result c.from_residual.ensures.1 in
    rw (p.1, p.2) (refused g.Q.Exact.fits t.domain t.problem c.in_err-within.field-0.0 c.in_err-within.ensures)
