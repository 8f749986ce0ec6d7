use Rattle.plus_steps.specs.Laws.{CallName}
use Rattle.plus_steps.proofs.OneState.{one_call}
use Rattle.plus_steps.proofs.laws.one_call.Goals as goal

pub returns : goal.returns
returns c = one_call CallName
