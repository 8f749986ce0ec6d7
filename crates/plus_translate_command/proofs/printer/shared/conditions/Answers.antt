use Rattle.std.proofs.lemmas.Result.{err_from_is_err_and}
use Rattle.plus_printer.specs.Canon.{cond_text}
use Rattle.plus_printer.proofs.AppendedLemmas.{member_broken}
use Rattle.plus_translate_command.proofs.printer.shared.conditions.Goals as goal

pub returns-in_err-spaced_condition : goal.returns-in_err-spaced_condition
returns-in_err-spaced_condition c =
    let p = err_from_is_err_and c.from_residual.result c.from_residual.ensures.1 in
    rw p.1 (member_broken cond_text c.args.conds.now c.members.cond-index c.cond-item.result _ _ _ _ c.members-test.true c.cond-item.is c.members.invariant c.in_err-spaced_condition.ensures)
