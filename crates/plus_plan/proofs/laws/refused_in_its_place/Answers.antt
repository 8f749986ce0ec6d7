use Rattle.plus_plan.proofs.Places.{refused_fault}
use Rattle.plus_plan.proofs.laws.refused_in_its_place.Goals as goal

pub returns : goal.returns
returns c = refused_fault
