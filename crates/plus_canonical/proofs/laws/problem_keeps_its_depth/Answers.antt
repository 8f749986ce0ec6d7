use Rattle.plus_canonical.proofs.Problems.{problem_kept}
use Rattle.plus_canonical.proofs.laws.problem_keeps_its_depth.Goals as goal

pub returns : goal.returns
returns c = problem_kept
