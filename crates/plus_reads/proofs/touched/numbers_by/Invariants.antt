use Rattle.std.proofs.Common.{[], map, take}
use Rattle.plus_state.specs.declared.term.FluentId.{FluentId}
use Rattle.plus_reads.proofs.Waking.{Gathers}
use Rattle.plus_reads.proofs.touched.numbers_by.Given as goal

abbrev pub invariant-fluents : goal.invariant-fluents
invariant-fluents l = Gathers l.readers.fluents (map (λ (f : FluentId). f.0) (take l.fluent-index l.fluents)) [] l.numbers.items
