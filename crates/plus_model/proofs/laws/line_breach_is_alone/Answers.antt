use Rattle.plus_model.proofs.OneBreach.{line_breach_is_alone}
use Rattle.plus_model.proofs.laws.line_breach_is_alone.Goals as goal

pub returns : goal.returns
returns c = line_breach_is_alone
