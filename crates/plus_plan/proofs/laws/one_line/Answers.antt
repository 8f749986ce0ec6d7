use Rattle.plus_plan.proofs.OneLine.{one_line}
use Rattle.plus_plan.proofs.laws.one_line.Goals as goal

pub returns : goal.returns
returns c = one_line
