use Rattle.plus_steps.specs.Laws.{CallName}
use Rattle.plus_steps.proofs.CallsLemmas.{calls_go_on}
use Rattle.plus_steps.proofs.laws.calls_go_on.Goals as goal

pub returns : goal.returns
returns c = calls_go_on CallName
