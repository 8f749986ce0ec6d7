use Rattle.std.proofs.lemmas.Result.{err_from_is_err_and}
use Rattle.plus_printer.proofs.AppendedLemmas.{schema_broken}
use Rattle.plus_printer.proofs.sections.schemas.Goals as goal

pub returns-in_err-schema : goal.returns-in_err-schema
returns-in_err-schema c =
    let p = err_from_is_err_and c.from_residual.result c.from_residual.ensures.1 in
    rw p.1 (schema_broken c.args.opens.now c.args.schemas.now c.members.member-index c.member-item.result _ _ _ _ c.members-test.true c.member-item.is c.members.invariant c.in_err-schema.ensures)
