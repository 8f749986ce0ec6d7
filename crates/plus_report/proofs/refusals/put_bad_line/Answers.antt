use Rattle.plus_report.specs.Refusals.{early_text}
use Rattle.plus_report.proofs.PutsLemmas.{both, stop, early}
use Rattle.plus_report.proofs.refusals.put_bad_line.Goals as goal

pub returns-in_err-put_numbered : goal.returns-in_err-put_numbered
unfolding early_text
returns-in_err-put_numbered g c = let h = c.from_residual.ensures.0 in early _ (early _ (stop c.in_err-put_numbered.ensures h) h) h

pub returns-in_err-put_place : goal.returns-in_err-put_place
unfolding early_text
returns-in_err-put_place g c = let h = c.from_residual-in_err-put_place.ensures.0 in early _ (both c.in_ok-put_numbered.ensures (stop c.in_err-put_place.ensures h)) h

pub returns : goal.returns
unfolding early_text
returns g c = both (both c.in_ok-put_numbered.ensures c.in_ok-put_place.ensures) c.put.ensures
