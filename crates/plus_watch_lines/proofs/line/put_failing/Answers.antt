use Rattle.plus_report.proofs.PutsLemmas.{both, stop, early}
use Rattle.plus_watch_lines.proofs.line.put_failing.Goals as goal

pub returns-in_err-put : goal.returns-in_err-put
returns-in_err-put g c = let h = c.from_residual.ensures.0 in early _ (stop c.in_err-put.ensures h) h

pub returns : goal.returns
returns g c = both c.in_ok-put.ensures c.put_fraction_end.ensures
