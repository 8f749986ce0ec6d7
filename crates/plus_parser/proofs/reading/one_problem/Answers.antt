use Rattle.plus_parser.proofs.Wholes.{one_problem_only}
use Rattle.plus_parser.proofs.reading.one_problem.Goals as goal

pub returns : goal.returns
returns c = λ text p q h k. one_problem_only text p q h k
