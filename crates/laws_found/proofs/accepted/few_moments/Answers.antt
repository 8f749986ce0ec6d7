use Rattle.laws_found.proofs.AcceptedLemmas.Accepting.{few_of}
use Rattle.laws_found.proofs.accepted.few_moments.Goals as goal

pub returns : goal.returns
returns c = few_of
