use Rattle.plus_canonical.proofs.Domains.{domain_kept}
use Rattle.plus_canonical.proofs.laws.domain_keeps_its_depth.Goals as goal

pub returns : goal.returns
returns c = domain_kept
