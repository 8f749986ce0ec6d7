use Rattle.std.proofs.Common.{take}
use Rattle.plus_reads.proofs.Rows.{Filled}
use Rattle.plus_reads.proofs.table.table_of.Given as goal

abbrev pub invariant-pairs : goal.invariant-pairs
invariant-pairs l = Filled l.keys l.pairs (take l.pair-index l.pairs) l.starts.items l.readers.items
