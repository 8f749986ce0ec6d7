use Rattle.plus_state.proofs.LookLemmas.{look_finds}
use Rattle.plus_state.proofs.laws.look_finds.Goals as goal

pub returns : goal.returns
returns c = look_finds
