use Rattle.plus_settle.proofs.SettlesLemmas.{one_running_set}
use Rattle.plus_settle.proofs.laws.one_running_set.Goals as goal

pub returns : goal.returns
returns c = one_running_set
