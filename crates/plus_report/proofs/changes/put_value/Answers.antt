use Rattle.plus_report.specs.Text.{value_line}
use Rattle.plus_report.proofs.PutsLemmas.{both, stop, early}
use Rattle.plus_report.proofs.changes.put_value.Goals as goal

pub returns-in_err-put_three : goal.returns-in_err-put_three
unfolding value_line
returns-in_err-put_three g c = let h = c.from_residual.ensures.0 in early _ (stop c.in_err-put_three.ensures h) h

pub returns : goal.returns
unfolding value_line
returns g c = both c.in_ok-put_three.ensures c.put_fraction_end.ensures
