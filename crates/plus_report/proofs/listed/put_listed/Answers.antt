use Rattle.plus_report.specs.Text.{changes_text}
use Rattle.plus_report.proofs.PutsLemmas.{both, stop, early}
use Rattle.plus_report.proofs.listed.put_listed.Goals as goal

pub returns-in_err-put_listed_lost : goal.returns-in_err-put_listed_lost
unfolding changes_text
returns-in_err-put_listed_lost g c = let h = c.from_residual.ensures.0 in early _ (early _ (stop c.in_err-put_listed_lost.ensures h) h) h

pub returns-in_err-put_listed_gained : goal.returns-in_err-put_listed_gained
unfolding changes_text
returns-in_err-put_listed_gained g c = let h = c.from_residual-in_err-put_listed_gained.ensures.0 in early _ (both c.in_ok-put_listed_lost.ensures (stop c.in_err-put_listed_gained.ensures h)) h

pub returns : goal.returns
unfolding changes_text
returns g c = both (both c.in_ok-put_listed_lost.ensures c.in_ok-put_listed_gained.ensures) c.put_listed_fluents.ensures
