use Rattle.std.proofs.Common.{◌≡◌, [], drop}
use Rattle.plus_types.specs.Faults.{init_faults}
use Rattle.plus_types.specs.Known.{context}
use Rattle.plus_types.proofs.initial.init.Given as goal

-- the members walked so far have no fault, and their fluents are known to have a value
abbrev pub invariant-members : goal.invariant-members
invariant-members l = init_faults (context l.known) [] l.members ≡ init_faults (context l.known) l.valued (drop l.member-index l.members)
