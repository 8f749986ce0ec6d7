use Rattle.laws_found.proofs.CallsLemmas.Within as lemmas
use Rattle.laws_found.proofs.calls.called_instance_is_within.Goals as goal

pub returns : goal.returns
returns c = lemmas.called_instance_is_within
