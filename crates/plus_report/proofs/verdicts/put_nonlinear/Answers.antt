use Rattle.plus_report.specs.Verdicts.{limit_text}
use Rattle.plus_report.proofs.PutsLemmas.{both, stop, early}
use Rattle.plus_report.proofs.verdicts.put_nonlinear.Goals as goal

pub returns-in_err-put_three : goal.returns-in_err-put_three
unfolding limit_text
returns-in_err-put_three g c = let h = c.from_residual.ensures.0 in early _ (rw c.owner_of.ensures at (stop c.in_err-put_three.ensures h)) h

pub returns : goal.returns
unfolding limit_text
returns g c = both (rw c.owner_of.ensures at c.in_ok-put_three.ensures) c.put_numbered.ensures
