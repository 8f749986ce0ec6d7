use Rattle.laws_translation.proofs.PrintedLaws.{printed_plans}
use Rattle.laws_translation.proofs.plans.printed_plans.Goals as goal

pub returns : goal.returns
returns c = printed_plans
