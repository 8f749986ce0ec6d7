use Rattle.plus_state.proofs.LookingLemmas.{all_known}
use Rattle.plus_cascade.proofs.rounds.round_changes.Goals as goal

pub due_round-requires-clause-known : goal.due_round-requires-clause-known
due_round-requires-clause-known g c = all_known _ _ _ _ c.all.ensures
