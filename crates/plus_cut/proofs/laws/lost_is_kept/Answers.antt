use Rattle.plus_cut.proofs.LostLemmas.{lost_is_kept}
use Rattle.plus_cut.proofs.laws.lost_is_kept.Goals as goal

pub returns : goal.returns
returns g c = lost_is_kept g.Q.Exact.fits
