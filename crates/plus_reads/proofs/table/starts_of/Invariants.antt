use Rattle.plus_reads.proofs.Rows.{Summed}
use Rattle.plus_reads.proofs.table.starts_of.Given as goal

abbrev pub invariant-keys : goal.invariant-keys
invariant-keys l = Summed l.keys l.pairs l.starts.items l.key l.sum
