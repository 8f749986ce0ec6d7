use Rattle.std.proofs.Common.{◌≡◌, drop}
use Rattle.plus_types.specs.Faults.{arguments_faults}
use Rattle.plus_types.specs.Known.{context}
use Rattle.plus_types.proofs.uses.arguments.Given as goal

-- the arguments walked so far have no fault
abbrev pub invariant-pairs : goal.invariant-pairs
invariant-pairs l = arguments_faults (context l.known) l.vars l.params l.args ≡ arguments_faults (context l.known) l.vars (drop l.i l.params) (drop l.i l.args)
