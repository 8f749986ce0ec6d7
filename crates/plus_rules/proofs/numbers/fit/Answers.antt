use Rattle.plus_numbering.proofs.Unfits.{then_tests}
use Rattle.plus_rules.proofs.numbers.fit.Goals as goal

pub returns : goal.returns
returns g c = then_tests g.Q.Exact.fits _ _ c.times.result c.in_ok-conditions.ensures c.times.ensures
