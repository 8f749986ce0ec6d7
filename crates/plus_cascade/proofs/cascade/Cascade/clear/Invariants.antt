use Rattle.std.proofs.Common.{drop}
use Rattle.plus_cascade.specs.Fired.{event_numbers}
use Rattle.plus_cascade.proofs.FiredLemmas.{Clearing}
use Rattle.plus_cascade.proofs.cascade.Cascade.clear.Given as goal

abbrev pub invariant-each : goal.invariant-each
invariant-each l = Clearing (event_numbers (drop l.event-index l.events)) l.self-inside.fired l.initial.self-inside.fired (event_numbers l.events)
