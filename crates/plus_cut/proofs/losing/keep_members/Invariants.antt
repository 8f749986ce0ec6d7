use Rattle.std.proofs.Common.{map, drop}
use Rattle.plus_state.specs.View.{condition_of}
use Rattle.plus_cut.proofs.LosingLemmas.{Keeping}
use Rattle.plus_cut.proofs.losing.keep_members.Given as goal

abbrev pub invariant-members : goal.invariant-members
invariant-members g l =
    Keeping l.marks l.initial.atoms.items l.atoms.items (map (condition_of g.Q.Exact.value) (drop l.member-index l.members)) (map (condition_of g.Q.Exact.value) l.members)
