use Rattle.plus_crossing.proofs.Steady.{one_truth_until_next}
use Rattle.plus_crossing.proofs.laws.one_truth_until_next.Goals as goal

pub returns : goal.returns
returns g c = one_truth_until_next g.Q.Exact.fits
