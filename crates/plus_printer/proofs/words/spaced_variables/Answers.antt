use Rattle.std.proofs.lemmas.Result.{err_from_is_err_and}
use Rattle.plus_printer.specs.Words.{variable_text}
use Rattle.plus_printer.proofs.AppendedLemmas.{member_broken}
use Rattle.plus_printer.proofs.words.spaced_variables.Goals as goal

pub returns-in_err-spaced_variable : goal.returns-in_err-spaced_variable
returns-in_err-spaced_variable c =
    let p = err_from_is_err_and c.from_residual.result c.from_residual.ensures.1 in
    rw p.1 (member_broken variable_text c.args.names.now c.members.name-index c.name-item.result _ _ _ _ c.members-test.true c.name-item.is c.members.invariant c.in_err-spaced_variable.ensures)
