use Rattle.plus_number.specs.Frac.{fraction_of}
use Rattle.plus_translate.proofs.TranslateLemmas.{not_due}
use Rattle.plus_translate_command.proofs.PrinterLemmas.HalfLemmas.{text_of_half, none_of_half}
use Rattle.plus_translate_command.proofs.printer.half.translated_half.Goals as goal

pub returns-in-Err : goal.returns-in-Err
returns-in-Err c =
    let n = rw (c.domain-domain.ensures, c.problem-problem.ensures) at c.in_default.ensures in
    let h = rw (c.as_slice.ensures, c.problem-problem.ensures) at c.in-Err.ensures in
    not_due (fraction_of c.args.interval) c.args.typed.now.domain c.args.typed.now.problem c.in-Err.fault n h

pub returns-in-Ok-Some : goal.returns-in-Ok-Some
returns-in-Ok-Some c =
    let n = rw (c.domain-domain.ensures, c.problem-problem.ensures) at c.in_default.ensures in
    let a = rw (c.as_slice.ensures, c.problem-problem.ensures) at c.in-Ok.ensures.0 in
    text_of_half c.args.file (fraction_of c.args.interval) c.args.typed.now.domain c.domain-domain.result.now c.args.typed.now.problem c.problem-problem.result.now
    c.domain-domain.ensures c.problem-problem.ensures n a _ c.in-Ok-Some.text c.in-Ok-Some.field-0-is c.in-Ok-Some.ensures

pub returns-in-Ok-None : goal.returns-in-Ok-None
returns-in-Ok-None c =
    let n = rw (c.domain-domain.ensures, c.problem-problem.ensures) at c.in_default.ensures in
    let a = rw (c.as_slice.ensures, c.problem-problem.ensures) at c.in-Ok.ensures.0 in
    none_of_half c.args.file (fraction_of c.args.interval) c.args.typed.now.domain c.domain-domain.result.now c.args.typed.now.problem c.problem-problem.result.now
    c.domain-domain.ensures c.problem-problem.ensures n a _ c.in-Ok-None.field-0-is c.in-Ok-None.ensures
