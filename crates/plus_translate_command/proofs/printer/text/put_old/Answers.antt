use Rattle.plus_report.proofs.PutsLemmas.{both, stop, early}
use Rattle.plus_translate_command.proofs.printer.text.put_old.Goals as goal

pub returns-in_err-put_both : goal.returns-in_err-put_both
returns-in_err-put_both g c =
    let h = c.from_residual.ensures.0 in
    let first = rw (c.deref.ensures.value, c.deref-2.ensures.value) at c.in_err-put_both.ensures in
    early _ (early _ (stop first h) h) h

pub returns-in_err-put_both-2 : goal.returns-in_err-put_both-2
returns-in_err-put_both-2 g c =
    let h = c.from_residual-in_err-put_both-2.ensures.0 in
    let first = rw (c.deref.ensures.value, c.deref-2.ensures.value) at c.in_ok-put_both.ensures in
    let second = rw (c.deref-3.ensures.value, c.deref-4.ensures.value) at c.in_err-put_both-2.ensures in
    early _ (both first (stop second h)) h

pub returns : goal.returns
returns g c =
    let first = rw (c.deref.ensures.value, c.deref-2.ensures.value) at c.in_ok-put_both.ensures in
    let second = rw (c.deref-3.ensures.value, c.deref-4.ensures.value) at c.in_ok-put_both-2.ensures in
    both (both first second) c.put.ensures
