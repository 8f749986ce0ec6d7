use Rattle.std.proofs.Common.{refl, ◌++◌, [], ◌∷◌}
use Rattle.std.proofs.lemmas.Result.{err_from_is_err_and}
use Rattle.plus_types.specs.Faults.{schema_faults, schemas_faults}
use Rattle.plus_types.specs.Known.{context}
use Rattle.plus_types.proofs.WalkLemmas.{walk_err}
use Rattle.plus_types.proofs.schemas.schemas.Goals as goal

pub returns-in_err-schema-clause-walks : goal.returns-in_err-schema-clause-walks
returns-in_err-schema-clause-walks c =
    let p = err_from_is_err_and c.from_residual.result c.from_residual.ensures.1 in
    let k = context c.args.known.now in
    rw (p.1, p.2) (walk_err _ (schemas_faults k c.args.process c.schemas.names) (schema_faults k c.args.process c.schemas.names)
    (λ a as'. schemas_faults k c.args.process (c.schemas.names ++ a.name.name ∷ []) as') (λ a as'. refl) c.args.schemas.now c.schemas.walked-index c.walked-item.result _
    c.schemas-test.true c.walked-item.is c.schemas.invariant.walked c.in_err-schema.ensures.walks)
