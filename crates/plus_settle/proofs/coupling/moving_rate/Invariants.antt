use Rattle.std.proofs.Common.{map, drop, length}
use Rattle.plus_state.specs.View.{rate_of}
use Rattle.plus_settle.proofs.CouplingLemmas.{Naming}
use Rattle.plus_settle.proofs.coupling.moving_rate.Given as goal

abbrev pub invariant-each : goal.invariant-each
invariant-each g l =
    Naming (length l.rates) (map (rate_of g.Q.Exact.value) (drop l.rate-index l.list)) (map (rate_of g.Q.Exact.value) l.list) l.rates
