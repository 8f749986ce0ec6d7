use Rattle.plus_watch.proofs.AllFound.{watch_tells}
use Rattle.plus_watch.proofs.laws.watch_tells.Goals as goal

pub returns : goal.returns
returns g c = watch_tells g.Q.Exact.fits
