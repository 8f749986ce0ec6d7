use Rattle.std.proofs.Common.{drop}
use Rattle.plus_cascade.specs.Fired.{event_numbers}
use Rattle.plus_cascade.proofs.FiredLemmas.{Looking}
use Rattle.plus_cascade.proofs.cascade.Cascade.first_fired.Given as goal

abbrev pub invariant-each : goal.invariant-each
invariant-each l = Looking (event_numbers (drop l.event-index l.events)) l.self (event_numbers l.events)
