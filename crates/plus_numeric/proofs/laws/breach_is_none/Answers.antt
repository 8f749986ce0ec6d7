use Rattle.plus_numeric.proofs.Excluding.{breach_is_none}
use Rattle.plus_numeric.proofs.laws.breach_is_none.Goals as goal

pub returns : goal.returns
returns c = breach_is_none
