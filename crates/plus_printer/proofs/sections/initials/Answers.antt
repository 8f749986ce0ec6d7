use Rattle.std.proofs.lemmas.Result.{err_from_is_err_and}
use Rattle.plus_printer.specs.Canon.{init_text}
use Rattle.plus_printer.proofs.AppendedLemmas.{member_broken}
use Rattle.plus_printer.proofs.sections.initials.Goals as goal

pub returns-in_err-spaced_initial : goal.returns-in_err-spaced_initial
returns-in_err-spaced_initial c =
    let p = err_from_is_err_and c.from_residual.result c.from_residual.ensures.1 in
    rw p.1 (member_broken init_text c.args.members.now c.members.member-index c.member-item.result _ _ _ _ c.members-test.true c.member-item.is c.members.invariant c.in_err-spaced_initial.ensures)
