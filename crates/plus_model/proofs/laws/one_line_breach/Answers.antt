use Rattle.plus_model.proofs.OneBreach.{one_line_breach}
use Rattle.plus_model.proofs.laws.one_line_breach.Goals as goal

pub returns : goal.returns
returns c = one_line_breach
