use Rattle.laws_found.proofs.TextLemmas.One.{one_plan}
use Rattle.laws_found.proofs.text.one_written_plan.Goals as goal

pub returns : goal.returns
returns c = one_plan
