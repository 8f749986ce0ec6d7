use Rattle.plus_state.proofs.ApplyLemmas.{adding_more}
use Rattle.plus_state.proofs.laws.adding_more.Goals as goal

pub returns : goal.returns
returns c = adding_more
