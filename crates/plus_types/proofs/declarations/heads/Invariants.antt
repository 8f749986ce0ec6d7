use Rattle.std.proofs.Common.{◌≡◌, [], map, take, drop}
use Rattle.plus_types.specs.Faults.{heads_faults}
use Rattle.plus_types.proofs.declarations.heads.Given as goal

-- the heads walked so far have no fault, and their names are in the table
abbrev pub invariant-heads : goal.invariant-heads
invariant-heads l = record {
  walked : heads_faults l.types [] l.heads ≡ heads_faults l.types l.names (drop l.declared-index l.heads);
  table : l.names ≡ map (λ h. h.name.name) (take l.declared-index l.heads);
}
