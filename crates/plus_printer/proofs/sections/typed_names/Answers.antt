use Rattle.std.proofs.lemmas.Result.{err_from_is_err_and}
use Rattle.plus_printer.specs.Words.{typed_text}
use Rattle.plus_printer.proofs.AppendedLemmas.{member_broken}
use Rattle.plus_printer.proofs.sections.typed_names.Goals as goal

pub returns-in_err-spaced_typed : goal.returns-in_err-spaced_typed
returns-in_err-spaced_typed c =
    let p = err_from_is_err_and c.from_residual.result c.from_residual.ensures.1 in
    rw p.1 (member_broken typed_text c.args.names.now c.members.member-index c.member-item.result _ _ _ _ c.members-test.true c.member-item.is c.members.invariant c.in_err-spaced_typed.ensures)
