use Rattle.std.proofs.Common.{refl}
use Rattle.plus_report.specs.Text.{act_text}
use Rattle.plus_report.proofs.PutsLemmas.{both, early, wrote, cut}
use Rattle.plus_report.proofs.parts.write_act.Goals as goal

pub returns-in_err-put_called : goal.returns-in_err-put_called
unfolding act_text
returns-in_err-put_called g c =
    let h = c.from_residual.ensures.0 in
    cut c.new-waiting.ensures (early _ c.in_err-put_called.ensures refl) h

pub returns-in_err-put_changes : goal.returns-in_err-put_changes
unfolding act_text
returns-in_err-put_changes g c =
    let h = c.from_residual-in_err-put_changes.ensures.0 in
    cut c.new-waiting.ensures (both c.in_ok-put_called.ensures c.in_err-put_changes.ensures) h

pub returns : goal.returns
unfolding act_text
returns g c =
    wrote c.new-waiting.ensures (both c.in_ok-put_called.ensures c.in_ok-put_changes.ensures) c.flush.ensures.puts c.flush.ensures.empty
