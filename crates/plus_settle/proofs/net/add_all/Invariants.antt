use Rattle.std.proofs.Common.{map, drop}
use Rattle.plus_state.specs.View.{rate_of}
use Rattle.plus_settle.proofs.RatesLemmas.{Adding}
use Rattle.plus_settle.proofs.net.add_all.Given as goal

abbrev pub invariant-each : goal.invariant-each
invariant-each g l =
    Adding g.Q.Exact.fits (map (rate_of g.Q.Exact.value) (drop l.rate-index l.list)) (map (rate_of g.Q.Exact.value) l.list) l.state l.rates l.initial.rates
