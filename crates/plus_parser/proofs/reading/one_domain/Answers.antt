use Rattle.plus_parser.proofs.Wholes.{one_domain_only}
use Rattle.plus_parser.proofs.reading.one_domain.Goals as goal

pub returns : goal.returns
returns c = λ text d e h k. one_domain_only text d e h k
