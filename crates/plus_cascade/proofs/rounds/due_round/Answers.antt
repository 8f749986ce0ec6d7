use Rattle.plus_cascade.proofs.RoundLemmas.{stops_early}
use Rattle.plus_cascade.proofs.rounds.due_round.Goals as goal

pub returns-in-Err-clause-told : goal.returns-in-Err-clause-told
returns-in-Err-clause-told g c = stops_early _ _ _ _ _ c.in-Err.stop c.in-Err.ensures
