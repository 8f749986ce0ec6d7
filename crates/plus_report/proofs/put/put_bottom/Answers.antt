use Rattle.plus_report.proofs.PutsLemmas.{both, stop, early, worded, nothing}
use Rattle.plus_report.proofs.TextLemmas.{bottom_text-one, bottom_text-other}
use Rattle.plus_report.proofs.put.put_bottom.Goals as goal

pub returns-then-bottom-eq1 : goal.returns-then-bottom-eq1
returns-then-bottom-eq1 g c = worded (nothing tt) (bottom_text-one _ c.if-bottom-eq1.true)

pub returns-in_err-put : goal.returns-in_err-put
returns-in_err-put g c = let h = c.from_residual.ensures.0 in worded (early _ (stop c.in_err-put.ensures h) h) (bottom_text-other _ c.if-bottom-eq1.false)

pub returns : goal.returns
returns g c = worded (both c.in_ok-put.ensures c.put_natural.ensures) (bottom_text-other _ c.if-bottom-eq1.false)
