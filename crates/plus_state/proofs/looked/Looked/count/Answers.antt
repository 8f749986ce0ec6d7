use Rattle.plus_state.proofs.LookingLemmas.{numbers_long}
use Rattle.plus_state.proofs.looked.Looked.count.Goals as goal

pub returns-in-First : goal.returns-in-First
returns-in-First g c = rw c.in-First.is (numbers_long 0 c.in-First.count)
