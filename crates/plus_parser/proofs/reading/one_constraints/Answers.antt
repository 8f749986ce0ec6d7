use Rattle.plus_parser.proofs.Wholes.{one_constraints_only}
use Rattle.plus_parser.proofs.reading.one_constraints.Goals as goal

pub returns : goal.returns
returns c = λ text a b h k. one_constraints_only text a b h k
