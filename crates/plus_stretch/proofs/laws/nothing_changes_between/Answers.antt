use Rattle.plus_stretch.proofs.Between.{nothing_changes_between}
use Rattle.plus_stretch.proofs.laws.nothing_changes_between.Goals as goal

pub returns : goal.returns
returns g c = nothing_changes_between g.Q.Exact.fits
