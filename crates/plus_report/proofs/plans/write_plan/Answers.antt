use Rattle.std.proofs.Common.{refl}
use Rattle.plus_report.proofs.PutsLemmas.{both, early, wrote, cut}
use Rattle.plus_report.proofs.plans.write_plan.Goals as goal

pub returns-in_err-put_acts : goal.returns-in_err-put_acts
returns-in_err-put_acts g c =
    let h = c.from_residual.ensures.0 in
    rw (← c.deref.ensures.value) (cut c.new-waiting.ensures (early _ c.in_err-put_acts.ensures refl) h)

pub returns-in_err-put_last : goal.returns-in_err-put_last
returns-in_err-put_last g c =
    let h = c.from_residual-in_err-put_last.ensures.0 in
    rw (← c.deref.ensures.value) (cut c.new-waiting.ensures (both c.in_ok-put_acts.ensures c.in_err-put_last.ensures) h)

pub returns : goal.returns
returns g c =
    rw (← c.deref.ensures.value)
    (wrote c.new-waiting.ensures (both c.in_ok-put_acts.ensures c.in_ok-put_last.ensures) c.flush.ensures.puts c.flush.ensures.empty)
