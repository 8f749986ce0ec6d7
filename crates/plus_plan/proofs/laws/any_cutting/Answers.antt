use Rattle.plus_plan.proofs.Cuttings.{goes_on_with}
use Rattle.plus_plan.proofs.laws.any_cutting.Goals as goal

pub returns : goal.returns
returns c = goes_on_with
