use Rattle.plus_settle.proofs.StillLemmas.Standing.{standing_still}
use Rattle.plus_settle.proofs.still.laws.standing_still.Goals as goal

pub returns : goal.returns
returns g c = standing_still g.Q.Exact.fits
