use Rattle.plus_canonical.proofs.Problems.{problem_again}
use Rattle.plus_canonical.proofs.laws.problem_reads_again.Goals as goal

pub returns : goal.returns
returns c = problem_again
