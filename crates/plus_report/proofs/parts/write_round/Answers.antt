use Rattle.std.proofs.Common.{refl}
use Rattle.plus_report.specs.Text.{round_text}
use Rattle.plus_report.proofs.PutsLemmas.{both, early, wrote, cut}
use Rattle.plus_report.proofs.parts.write_round.Goals as goal

pub returns-in_err-put_fired : goal.returns-in_err-put_fired
unfolding round_text
returns-in_err-put_fired g c =
    let h = c.from_residual.ensures.0 in
    cut c.new-waiting.ensures (early _ c.in_err-put_fired.ensures refl) h

pub returns-in_err-put_changes : goal.returns-in_err-put_changes
unfolding round_text
returns-in_err-put_changes g c =
    let h = c.from_residual-in_err-put_changes.ensures.0 in
    cut c.new-waiting.ensures (both c.in_ok-put_fired.ensures c.in_err-put_changes.ensures) h

pub returns : goal.returns
unfolding round_text
returns g c =
    wrote c.new-waiting.ensures (both c.in_ok-put_fired.ensures c.in_ok-put_changes.ensures) c.flush.ensures.puts c.flush.ensures.empty
