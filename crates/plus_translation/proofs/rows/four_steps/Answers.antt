use Rattle.plus_translation.proofs.RowPlans.{four_steps}
use Rattle.plus_translation.proofs.rows.four_steps.Goals as goal

pub returns : goal.returns
returns c = four_steps
