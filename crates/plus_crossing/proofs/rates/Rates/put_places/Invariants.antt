use Rattle.plus_crossing.proofs.Places.{Making}
use Rattle.plus_crossing.proofs.rates.Rates.put_places.Given as goal

abbrev pub invariant-each : goal.invariant-each
invariant-each g l = Making g.Q.Exact.value l.below l.self-inside.fluents l.given.items
