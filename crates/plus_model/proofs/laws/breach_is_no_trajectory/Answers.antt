use Rattle.plus_model.proofs.Final.{breach_is_no_trajectory}
use Rattle.plus_model.proofs.laws.breach_is_no_trajectory.Goals as goal

pub returns : goal.returns
returns c = breach_is_no_trajectory
