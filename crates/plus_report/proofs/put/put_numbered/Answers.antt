use Rattle.plus_report.proofs.PutsLemmas.{both, stop, early}
use Rattle.plus_report.proofs.put.put_numbered.Goals as goal

pub returns-in_err-put : goal.returns-in_err-put
returns-in_err-put g c = let h = c.from_residual.ensures.0 in early _ (early _ (stop c.in_err-put.ensures h) h) h

pub returns-in_err-put_natural : goal.returns-in_err-put_natural
returns-in_err-put_natural g c = let h = c.from_residual-in_err-put_natural.ensures.0 in early _ (both c.in_ok-put.ensures (stop c.in_err-put_natural.ensures h)) h

pub returns : goal.returns
returns g c = both (both c.in_ok-put.ensures c.in_ok-put_natural.ensures) c.put-2.ensures
