use Rattle.std.proofs.lemmas.Result.{err_from_is_err_and}
use Rattle.plus_types.proofs.WalkLemmas.{first_later}
use Rattle.plus_types.proofs.typed.pair.Goals as goal

pub returns-in_err-rules-clause-walks : goal.returns-in_err-rules-clause-walks
returns-in_err-rules-clause-walks c =
    let p = err_from_is_err_and c.from_residual-in_err-rules.result c.from_residual-in_err-rules.ensures.1 in
    rw (p.1, p.2) (first_later _ _ _ c.in_ok-tables.ensures.walks c.in_err-rules.ensures.walks)
