use Rattle.plus_plan.proofs.Cutting.{cut_at}
use Rattle.plus_plan.proofs.laws.lines_one_by_one.Goals as goal

pub returns : goal.returns
returns c = cut_at
