use Rattle.std.proofs.lemmas.Result.{err_from_is_err_and}
use Rattle.plus_printer.proofs.AppendedLemmas.{zero_broken}
use Rattle.plus_printer.proofs.words.zeros.Goals as goal

pub returns-in_err-put : goal.returns-in_err-put
returns-in_err-put c =
    let p = err_from_is_err_and c.from_residual.result c.from_residual.ensures.1 in
    rw p.1 (zero_broken _ _ _ c.zeros._digit c.args.count c.zeros-test.true c.zeros.invariant c.in_err-put.ensures)
