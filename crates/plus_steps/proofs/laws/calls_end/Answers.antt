use Rattle.plus_steps.specs.Laws.{CallName}
use Rattle.plus_steps.proofs.CallsLemmas.{calls_end}
use Rattle.plus_steps.proofs.laws.calls_end.Goals as goal

pub returns : goal.returns
returns c = calls_end CallName
