use Rattle.plus_state.proofs.LookingLemmas.{all_known}
use Rattle.plus_stepped.proofs.moving.holding.Goals as goal

pub holding-requires-clause-known : goal.holding-requires-clause-known
holding-requires-clause-known g c = all_known _ _ _ _ c.all.ensures
