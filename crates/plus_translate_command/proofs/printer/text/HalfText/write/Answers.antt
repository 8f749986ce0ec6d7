use Rattle.std.proofs.Common.{refl}
use Rattle.plus_report.proofs.PutsLemmas.{both, early, wrote, cut}
use Rattle.plus_translate_command.proofs.printer.text.HalfText.write.Goals as goal

pub returns-in_err-put : goal.returns-in_err-put
returns-in_err-put g c =
    let h = c.from_residual.ensures.0 in
    let opening = rw c.deref.ensures.value at c.in_err-put.ensures in
    rw (← c.self.view_is) (cut c.new-waiting.ensures (early _ (early _ opening refl) refl) h)

pub returns-in_err-put_olds : goal.returns-in_err-put_olds
returns-in_err-put_olds g c =
    let h = c.from_residual-in_err-put_olds.ensures.0 in
    let opening = rw c.deref.ensures.value at c.in_ok-put.ensures in
    let olds = rw c.deref-2.ensures.value at c.in_err-put_olds.ensures in
    rw (← c.self.view_is) (cut c.new-waiting.ensures (early _ (both opening olds) refl) h)

pub returns-in_err-put-2 : goal.returns-in_err-put-2
returns-in_err-put-2 g c =
    let h = c.from_residual-in_err-put-2.ensures.0 in
    let opening = rw c.deref.ensures.value at c.in_ok-put.ensures in
    let olds = rw c.deref-2.ensures.value at c.in_ok-put_olds.ensures in
    let ending = rw c.deref-3.ensures.value at c.in_err-put-2.ensures in
    rw (← c.self.view_is) (cut c.new-waiting.ensures (both (both opening olds) ending) h)

pub returns : goal.returns
returns g c =
    let opening = rw c.deref.ensures.value at c.in_ok-put.ensures in
    let olds = rw c.deref-2.ensures.value at c.in_ok-put_olds.ensures in
    let ending = rw c.deref-3.ensures.value at c.in_ok-put-2.ensures in
    rw (← c.self.view_is) (wrote c.new-waiting.ensures (both (both opening olds) ending) c.flush.ensures.puts c.flush.ensures.empty)
