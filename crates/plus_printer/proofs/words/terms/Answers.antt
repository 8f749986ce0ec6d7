use Rattle.std.proofs.lemmas.Result.{err_from_is_err_and}
use Rattle.plus_printer.specs.Words.{term_text}
use Rattle.plus_printer.proofs.AppendedLemmas.{member_broken}
use Rattle.plus_printer.proofs.words.terms.Goals as goal

pub returns-in_err-spaced_term : goal.returns-in_err-spaced_term
returns-in_err-spaced_term c =
    let p = err_from_is_err_and c.from_residual.result c.from_residual.ensures.1 in
    rw p.1 (member_broken term_text c.args.terms.now c.members.term-index c.term-item.result _ _ _ _ c.members-test.true c.term-item.is c.members.invariant c.in_err-spaced_term.ensures)
