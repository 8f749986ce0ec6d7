use Rattle.laws_found.proofs.AcceptedLemmas.Accepting.{passes}
use Rattle.laws_found.proofs.accepted.grid_plan_passes.Goals as goal

pub returns : goal.returns
returns c = passes
