use Rattle.plus_crossing.proofs.Rated.{in_more, given_rates, given_inside}
use Rattle.plus_crossing.proofs.rates.Rates.given.Goals as goal

pub returns-clause-rates : goal.returns-clause-rates
returns-clause-rates g c = rw c.deref.ensures.value (given_rates g.Q.Exact.value _ _ _ c.self.view_is)

pub returns-clause-inside : goal.returns-clause-inside
returns-clause-inside g c = rw c.deref.ensures.value (given_inside g.Q.Exact.value _ _ _ c.self.view_is (in_more _ _ _ c.self.invariant.1 c.self.invariant.0))
