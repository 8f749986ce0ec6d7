use Rattle.std.proofs.Common.{◌≡◌, drop}
use Rattle.plus_types.specs.Faults.{leaves_faults}
use Rattle.plus_types.specs.Known.{context}
use Rattle.plus_types.proofs.effects.leaves.Given as goal

-- the leaves walked so far have no fault
abbrev pub invariant-leaves : goal.invariant-leaves
invariant-leaves l = leaves_faults (context l.known) l.vars l.process l.leaves ≡ leaves_faults (context l.known) l.vars l.process (drop l.write-index l.leaves)
