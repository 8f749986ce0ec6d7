use Rattle.plus_rules.proofs.AsGoal.{are_as_goal}
use Rattle.plus_rules.proofs.laws.are_as_goal.Goals as goal

pub returns : goal.returns
returns c = are_as_goal
