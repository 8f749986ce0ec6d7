use Rattle.plus_report.specs.Refusals.{early_text}
use Rattle.plus_report.proofs.PutsLemmas.{both, stop, early}
use Rattle.plus_report.proofs.refusals.put_bad_text.Goals as goal

pub returns-in_err-put_three : goal.returns-in_err-put_three
unfolding early_text
returns-in_err-put_three g c = let h = c.from_residual.ensures.0 in early _ (early _ (rw c.name_of.ensures at (stop c.in_err-put_three.ensures h)) h) h

pub returns-in_err-put_place : goal.returns-in_err-put_place
unfolding early_text
returns-in_err-put_place g c = let h = c.from_residual-in_err-put_place.ensures.0 in early _ (both (rw c.name_of.ensures at c.in_ok-put_three.ensures) (stop c.in_err-put_place.ensures h)) h

pub returns : goal.returns
unfolding early_text
returns g c = both (both (rw c.name_of.ensures at c.in_ok-put_three.ensures) c.in_ok-put_place.ensures) (rw c.word_of.ensures at c.put_three-2.ensures)
