use Rattle.plus_report.proofs.PutsLemmas.{both, stop, early}
use Rattle.plus_report.proofs.plans.put_act.Goals as goal

pub returns-in_err-put_fraction : goal.returns-in_err-put_fraction
returns-in_err-put_fraction g c = let h = c.from_residual.ensures.0 in early _ (stop c.in_err-put_fraction.ensures h) h

pub returns : goal.returns
returns g c = both c.in_ok-put_fraction.ensures c.put_three.ensures
