use Rattle.laws_found.proofs.AcceptedLemmas.Accepting.{all_pass}
use Rattle.laws_found.proofs.accepted.all_passes.Goals as goal

pub returns : goal.returns
returns c = all_pass
