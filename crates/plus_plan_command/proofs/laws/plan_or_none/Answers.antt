use Rattle.plus_plan_command.proofs.PlanOrNone.{plan_or_none}
use Rattle.plus_plan_command.proofs.laws.plan_or_none.Goals as goal

pub returns : goal.returns
returns c = plan_or_none
