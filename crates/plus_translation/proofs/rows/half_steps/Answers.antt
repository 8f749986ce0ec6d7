use Rattle.plus_translation.proofs.RowPlans.{half_steps}
use Rattle.plus_translation.proofs.rows.half_steps.Goals as goal

pub returns : goal.returns
returns c = half_steps
