use Rattle.std.proofs.Common.{◌≡◌, ◌++◌, take}
use Rattle.std.specs.List.{flat_map}
use Rattle.plus_translation.specs.Translated.{flows}
use Rattle.plus_translate.proofs.flows.put_flows.Given as goal

-- the processes so far
abbrev pub invariant-processes : goal.invariant-processes
invariant-processes l = l.into.items ≡ l.initial.into.items ++ flat_map (flows l.step) (take l.process-index l.processes)
