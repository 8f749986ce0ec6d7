use Rattle.std.proofs.Common.{map, take}
use Rattle.plus_state.specs.declared.changes.AtomChange.{AtomChange}
use Rattle.plus_state.specs.declared.changes.FluentChange.{FluentChange}
use Rattle.plus_reads.proofs.Waking.{Gathers}
use Rattle.plus_indexed.proofs.waiting.append_readers.Given as goal

abbrev pub invariant-atoms : goal.invariant-atoms
invariant-atoms g l = Gathers l.readers.atoms (map (λ (a : AtomChange). a.atom.0) (take l.change-index l.change-items)) l.initial.numbers.items l.numbers.items

abbrev pub invariant-fluents : goal.invariant-fluents
invariant-fluents g l = Gathers l.readers.fluents (map (λ (a : FluentChange _). a.fluent.0) (take l.change-index l.change-items)) l.initial.numbers.items l.numbers.items
