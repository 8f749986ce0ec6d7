use Rattle.plus_translation.proofs.RowPlans.{two_steps}
use Rattle.plus_translation.proofs.rows.two_steps.Goals as goal

pub returns : goal.returns
returns c = two_steps
