use Rattle.plus_possible.proofs.RefusedLemmas.{never_done}
use Rattle.plus_possible.proofs.laws.never_done.Goals as goal

pub returns : goal.returns
returns g c = never_done g.Q.Exact.fits
