use Rattle.std.proofs.Common.{◌≡◌, ◌++◌, map, take}
use Rattle.plus_translate.specs.Placed.{shown}
use Rattle.plus_translate.specs.Fires.{flow_of}
use Rattle.plus_translate.proofs.flows.put_rates.Given as goal

-- the writes so far
abbrev pub invariant-writes : goal.invariant-writes
invariant-writes l = l.into.items ≡ l.initial.into.items ++ map (flow_of l.step l.cond) (map shown (take l.write-index l.writes))
