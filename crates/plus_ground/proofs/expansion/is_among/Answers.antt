use Rattle.plus_ground.proofs.AmongLemmas.{found_at, not_found}
use Rattle.plus_ground.proofs.expansion.is_among.Goals as goal

pub returns-in-Ok : goal.returns-in-Ok
returns-in-Ok c = found_at _ c.args.object _ c.in-Ok.ensures.bound (rw c.in-Ok.is at c.binary_search.ensures.position)

pub returns-in-Err : goal.returns-in-Err
returns-in-Err c = not_found _ c.args.object _ c.requires (rw c.in-Err.is at c.binary_search.ensures.position)
