use Rattle.std.proofs.Common.{true, false, map, drop}
use Rattle.plus_state.specs.View.{condition_of}
use Rattle.plus_reads.proofs.Naming.{Adding}
use Rattle.plus_reads.proofs.names.+add_names.Given as goal

abbrev pub invariant-all : goal.invariant-all
invariant-all g l =
    Adding true l.names.atoms.items l.names.fluents.items l.initial.names.atoms.items l.initial.names.fluents.items (map (condition_of g.Q.Exact.value) (drop l.member-index l.member-items)) (map (condition_of g.Q.Exact.value) l.member-items)

abbrev pub invariant-any : goal.invariant-any
invariant-any g l =
    Adding false l.names.atoms.items l.names.fluents.items l.initial.names.atoms.items l.initial.names.fluents.items (map (condition_of g.Q.Exact.value) (drop l.member-index l.member-items)) (map (condition_of g.Q.Exact.value) l.member-items)
