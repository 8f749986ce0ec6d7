use Rattle.plus_possible.proofs.AnswersLemmas.{kept_for_fewer}
use Rattle.plus_possible.proofs.laws.kept_for_fewer.Goals as goal

pub returns : goal.returns
returns g c = kept_for_fewer g.Q.Exact.fits
