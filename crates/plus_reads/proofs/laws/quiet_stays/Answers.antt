use Rattle.plus_reads.proofs.Unchanged.{quiet_stays}
use Rattle.plus_reads.proofs.laws.quiet_stays.Goals as goal

pub returns : goal.returns
returns g c = λ cs t s ch before after covers w. quiet_stays _ cs t s ch before after covers w
