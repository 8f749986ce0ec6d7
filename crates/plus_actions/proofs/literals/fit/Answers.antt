use Rattle.std.proofs.Common.{refl}
use Rattle.std.specs.List.{flat_map}
use Rattle.std.proofs.lemmas.Result.{err_from_is_err_and}
use Rattle.plus_expansion.specs.Literals.{schema_literals}
use Rattle.plus_numbering.proofs.Unfits.{member_fits, member_unfit}
use Rattle.plus_actions.proofs.literals.fit.Goals as goal

pub schemas-preserved : goal.schemas-preserved
schemas-preserved g c =
    member_fits g.Q.Exact.fits (flat_map schema_literals) schema_literals (λ x xs. refl) c.args.schemas.now c.schemas.schema-index c.schema-item.result _
    c.schemas-test.true c.schema-item.is c.schemas.invariant (record { each = c.in_ok-schema_fits.ensures })

pub returns-in_err-schema_fits : goal.returns-in_err-schema_fits
returns-in_err-schema_fits g c =
    let p = err_from_is_err_and c.from_residual.result c.from_residual.ensures.1 in
    rw (p.1, p.2) (member_unfit g.Q.Exact.fits (flat_map schema_literals) schema_literals (λ x xs. refl) c.args.schemas.now c.schemas.schema-index c.schema-item.result _ _
    c.schemas-test.true c.schema-item.is c.schemas.invariant c.in_err-schema_fits.ensures)
