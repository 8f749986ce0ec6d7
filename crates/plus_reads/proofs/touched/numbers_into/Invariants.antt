use Rattle.std.proofs.Common.{◌≡◌, take}
use Rattle.plus_state.specs.Numbers.{event_numbers}
use Rattle.plus_reads.proofs.touched.numbers_into.Given as goal

abbrev pub invariant-each : goal.invariant-each
invariant-each l = l.numbers.items ≡ event_numbers (take l.event-index l.events)
