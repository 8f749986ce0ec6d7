use Rattle.plus_stepped.proofs.Cascades.{breach_is_no_cascade}
use Rattle.plus_stepped.proofs.laws.breach_is_no_cascade.Goals as goal

pub returns : goal.returns
returns g c = breach_is_no_cascade _
