use Rattle.std.proofs.Common.{refl}
use Rattle.plus_report.specs.Text.{entry_text}
use Rattle.plus_report.proofs.PutsLemmas.{both, early, wrote, cut}
use Rattle.plus_report.proofs.parts.write_entry.Goals as goal

pub returns-in_err-put_moment : goal.returns-in_err-put_moment
unfolding entry_text
returns-in_err-put_moment g c =
    let h = c.from_residual.ensures.0 in
    cut c.new-waiting.ensures (early _ c.in_err-put_moment.ensures refl) h

pub returns-in_err-put_fluents : goal.returns-in_err-put_fluents
unfolding entry_text
returns-in_err-put_fluents g c =
    let h = c.from_residual-in_err-put_fluents.ensures.0 in
    cut c.new-waiting.ensures (both c.in_ok-put_moment.ensures c.in_err-put_fluents.ensures) h

pub returns : goal.returns
unfolding entry_text
returns g c =
    wrote c.new-waiting.ensures (both c.in_ok-put_moment.ensures c.in_ok-put_fluents.ensures) c.flush.ensures.puts c.flush.ensures.empty
