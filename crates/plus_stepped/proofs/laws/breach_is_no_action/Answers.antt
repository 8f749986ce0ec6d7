use Rattle.plus_stepped.proofs.Actions.{breach_is_no_action}
use Rattle.plus_stepped.proofs.laws.breach_is_no_action.Goals as goal

pub returns : goal.returns
returns g c = breach_is_no_action _
