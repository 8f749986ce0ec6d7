use Rattle.plus_planner.proofs.SearchingLemmas.{none_once}
use Rattle.plus_planner.proofs.laws.none_once.Goals as goal

pub returns : goal.returns
returns g c = none_once g.Q.Exact.fits
