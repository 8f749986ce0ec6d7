use Rattle.std.proofs.Common.{take}
use Rattle.plus_reads.specs.Rows.{CountsAre}
use Rattle.plus_reads.proofs.table.counts_of.Given as goal

abbrev pub invariant-pairs : goal.invariant-pairs
invariant-pairs l = CountsAre l.keys (take l.pair-index l.pairs) l.counts.items
