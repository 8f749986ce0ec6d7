use Rattle.plus_report.specs.Refusals.{early_text}
use Rattle.plus_report.proofs.PutsLemmas.{both, stop, early}
use Rattle.plus_report.proofs.refusals.put_depth.Goals as goal

pub returns-in_err-put_three : goal.returns-in_err-put_three
unfolding early_text
returns-in_err-put_three g c = let h = c.from_residual.ensures.0 in early _ (early _ (rw c.name_of.ensures at (stop c.in_err-put_three.ensures h)) h) h

pub returns-in_err-put_natural : goal.returns-in_err-put_natural
unfolding early_text
returns-in_err-put_natural g c = let h = c.from_residual-in_err-put_natural.ensures.0 in early _ (both (rw c.name_of.ensures at c.in_ok-put_three.ensures) (stop c.in_err-put_natural.ensures h)) h

pub returns : goal.returns
unfolding early_text
returns g c = both (both (rw c.name_of.ensures at c.in_ok-put_three.ensures) c.in_ok-put_natural.ensures) c.put.ensures
