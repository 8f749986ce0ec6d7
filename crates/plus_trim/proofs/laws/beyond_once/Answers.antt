use Rattle.plus_planner.proofs.NumberOnce.{number_once}
use Rattle.plus_trim.specs.Acts.{chosen}
use Rattle.plus_trim.specs.Judging.{LimitsWithout}
use Rattle.plus_trim.proofs.laws.beyond_once.Goals as goal

pub returns : goal.returns
returns g c P most xs last places n m a b = number_once (LimitsWithout g.Q.Exact.fits P most (chosen xs places) last) n m a.number b.number
