use Rattle.plus_cascade.proofs.SetLemmas.{rounds_go_on}
use Rattle.plus_cascade.proofs.laws.rounds_go_on.Goals as goal

pub returns : goal.returns
returns c = rounds_go_on
