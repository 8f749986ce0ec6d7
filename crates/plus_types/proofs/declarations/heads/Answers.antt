use Rattle.std.proofs.Common.{refl, ◌++◌, [], ◌∷◌}
use Rattle.std.proofs.lemmas.Result.{err_from_is_err_and}
use Rattle.plus_types.specs.Faults.{head_faults, heads_faults}
use Rattle.plus_types.proofs.WalkLemmas.{walk_err}
use Rattle.plus_types.proofs.declarations.heads.Goals as goal

pub returns-in_err-head-clause-walks : goal.returns-in_err-head-clause-walks
returns-in_err-head-clause-walks c =
    let p = err_from_is_err_and c.from_residual.result c.from_residual.ensures.1 in
    rw (p.1, p.2) (walk_err _ (heads_faults c.args.types.now c.heads.names) (head_faults c.args.types.now c.heads.names)
    (λ h hs. heads_faults c.args.types.now (c.heads.names ++ h.name.name ∷ []) hs) (λ h hs. refl) c.args.heads.now c.heads.declared-index c.declared-item.result _
    c.heads-test.true c.declared-item.is c.heads.invariant.walked c.in_err-head.ensures.walks)
