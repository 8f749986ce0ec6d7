use Rattle.std.proofs.Common.{◌≡◌, take}
use Rattle.plus_state.specs.Numbers.{process_numbers}
use Rattle.plus_indexed.proofs.waiting.put_numbers.Given as goal

abbrev pub invariant-each : goal.invariant-each
invariant-each l = l.numbers.items ≡ process_numbers (take l.process-index l.processes)
