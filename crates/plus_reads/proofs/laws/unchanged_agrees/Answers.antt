use Rattle.plus_reads.proofs.Unchanged.{unchanged_agrees}
use Rattle.plus_reads.proofs.laws.unchanged_agrees.Goals as goal

pub returns : goal.returns
returns c = unchanged_agrees
