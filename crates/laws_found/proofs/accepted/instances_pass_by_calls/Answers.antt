use Rattle.laws_found.proofs.AcceptedLemmas.Instances.{instances_pass}
use Rattle.laws_found.proofs.accepted.instances_pass_by_calls.Goals as goal

pub returns : goal.returns
returns c = instances_pass
