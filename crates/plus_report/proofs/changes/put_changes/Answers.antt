use Rattle.plus_report.specs.Text.{changes_text}
use Rattle.plus_report.proofs.PutsLemmas.{both, stop, early}
use Rattle.plus_report.proofs.changes.put_changes.Goals as goal

pub returns-in_err-put_lost : goal.returns-in_err-put_lost
unfolding changes_text
returns-in_err-put_lost g c = let h = c.from_residual.ensures.0 in early _ (early _ (stop c.in_err-put_lost.ensures h) h) h

pub returns-in_err-put_lost-2 : goal.returns-in_err-put_lost-2
unfolding changes_text
returns-in_err-put_lost-2 g c = let h = c.from_residual-in_err-put_lost-2.ensures.0 in early _ (both c.in_ok-put_lost.ensures (stop c.in_err-put_lost-2.ensures h)) h

pub returns : goal.returns
unfolding changes_text
returns g c = both (both c.in_ok-put_lost.ensures c.in_ok-put_lost-2.ensures) c.put_fluents.ensures
