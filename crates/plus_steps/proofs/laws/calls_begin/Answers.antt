use Rattle.plus_steps.specs.Laws.{CallName}
use Rattle.plus_steps.proofs.CallsLemmas.{calls_begin}
use Rattle.plus_steps.proofs.laws.calls_begin.Goals as goal

pub returns : goal.returns
returns c = calls_begin CallName
