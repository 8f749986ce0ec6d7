use Rattle.std.proofs.Common.{arith}
use Rattle.std.proofs.lemmas.Result.{err_from_is_err_and}
use Rattle.plus_types.specs.Known.{context}
use Rattle.plus_types.proofs.WalkLemmas.{pairs_err}
use Rattle.plus_types.proofs.uses.arguments.Goals as goal

pub returns-in_err-argument : goal.returns-in_err-argument
returns-in_err-argument c =
    let p = err_from_is_err_and c.from_residual.result c.from_residual.ensures.1 in
    rw (p.1, p.2) (pairs_err (context c.args.known.now) c.args.vars.now _ c.args.params.now c.args.args.now c.pairs.i c.index-params-i.result c.index-args-i.result _
    (omega arith) (omega arith) c.index-params-i.is c.index-args-i.is c.pairs.invariant c.in_err-argument.ensures)
