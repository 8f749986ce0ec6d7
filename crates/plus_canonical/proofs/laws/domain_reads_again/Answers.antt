use Rattle.plus_canonical.proofs.Domains.{domain_again}
use Rattle.plus_canonical.proofs.laws.domain_reads_again.Goals as goal

pub returns : goal.returns
returns c = domain_again
