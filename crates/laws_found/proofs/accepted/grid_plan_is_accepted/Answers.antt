use Rattle.laws_found.proofs.AcceptedLemmas.Accepting.{accepted}
use Rattle.laws_found.proofs.accepted.grid_plan_is_accepted.Goals as goal

pub returns : goal.returns
returns c = accepted
