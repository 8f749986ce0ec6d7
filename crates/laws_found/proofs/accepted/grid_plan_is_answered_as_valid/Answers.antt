use Rattle.laws_found.proofs.AcceptedLemmas.Accepting.{answered}
use Rattle.laws_found.proofs.accepted.grid_plan_is_answered_as_valid.Goals as goal

pub returns : goal.returns
returns c = answered
