use Rattle.std.proofs.lemmas.Result.{err_from_is_err_and}
use Rattle.plus_ground.proofs.RefusalLemmas.{counts_refused, literals_tested}
use Rattle.plus_ground.proofs.expansion.limits.Goals as goal

pub returns-in_err-within : goal.returns-in_err-within
returns-in_err-within g c =
    let t = c.args.numbering.now.typed.now in
    let p = err_from_is_err_and c.from_residual.result c.from_residual.ensures.1 in
    rw (p.1, p.2) (counts_refused g.Q.Exact.fits t.domain t.problem c.in_err-within.field-0.0 c.in_err-within.ensures)

pub returns : goal.returns
returns g c =
    let t = c.args.numbering.now.typed.now in
    literals_tested g.Q.Exact.fits t.domain t.problem c.fit.result c.in_ok-within.ensures c.fit.ensures
