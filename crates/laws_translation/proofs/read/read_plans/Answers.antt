use Rattle.laws_translation.proofs.ReadLaws.{read_plans}
use Rattle.laws_translation.proofs.read.read_plans.Goals as goal

pub returns : goal.returns
returns c = read_plans
