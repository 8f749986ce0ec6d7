use Rattle.std.proofs.Common.{refl}
use Rattle.plus_report.proofs.PutsLemmas.{stop}
use Rattle.plus_report.proofs.LineLemmas.{next_text, last_text, all_texts}
use Rattle.plus_translate_command.specs.Printer.Woven.{parts_of, woven_old}
use Rattle.plus_translate_command.proofs.printer.text.put_olds.Goals as goal

pub returns-in_err-put_old : goal.returns-in_err-put_old
returns-in_err-put_old g c =
    let h = c.from_residual.ensures.0 in
    last_text (woven_old c.args.shared.now.none.items c.args.shared.now.clears.items) parts_of c.args.olds.now c.each.old-index c.old-item.result
    c.each.invariant (stop c.in_err-put_old.ensures h) refl c.each-test.true c.old-item.is h

pub each-preserved : goal.each-preserved
each-preserved g c =
    next_text (woven_old c.args.shared.now.none.items c.args.shared.now.clears.items) parts_of c.args.olds.now c.each.old-index c.old-item.result
    c.each.invariant c.in_ok-put_old.ensures refl c.each-test.true c.old-item.is

pub returns : goal.returns
returns g c =
    all_texts (woven_old c.args.shared.now.none.items c.args.shared.now.clears.items) parts_of c.args.olds.now c.each.old-index c.each.invariant c.each-test.false
