use Rattle.plus_plan.proofs.OneLine.{read_spelled, spelled_read}
use Rattle.plus_plan.proofs.laws.read_as_spelled.Goals as goal

pub returns : goal.returns
returns c = λ form n bytes l. (read_spelled form n bytes l, spelled_read form n bytes l)
