use Rattle.std.proofs.Common.{drop}
use Rattle.plus_cascade.specs.Fired.{event_numbers}
use Rattle.plus_cascade.proofs.FiredLemmas.{Growing}
use Rattle.plus_cascade.proofs.cascade.Cascade.add.Given as goal

abbrev pub invariant-each : goal.invariant-each
invariant-each l = Growing (event_numbers (drop l.event-index l.events)) l.self-inside.fired l.initial.self-inside.fired (event_numbers l.events)
