use Rattle.std.proofs.Common.{refl}
use Rattle.plus_report.specs.Text.{literals_text}
use Rattle.plus_report.proofs.PutsLemmas.{both, early, wrote, cut}
use Rattle.plus_report.proofs.parts.write_literals_changes.Goals as goal

pub returns-in_err-put : goal.returns-in_err-put
unfolding literals_text
returns-in_err-put g c =
    let h = c.from_residual.ensures.0 in
    cut c.new-waiting.ensures (early _ c.in_err-put.ensures refl) h

pub returns-in_err-put_listed : goal.returns-in_err-put_listed
unfolding literals_text
returns-in_err-put_listed g c =
    let h = c.from_residual-in_err-put_listed.ensures.0 in
    cut c.new-waiting.ensures (both c.in_ok-put.ensures c.in_err-put_listed.ensures) h

pub returns : goal.returns
unfolding literals_text
returns g c =
    wrote c.new-waiting.ensures (both c.in_ok-put.ensures c.in_ok-put_listed.ensures) c.flush.ensures.puts c.flush.ensures.empty
