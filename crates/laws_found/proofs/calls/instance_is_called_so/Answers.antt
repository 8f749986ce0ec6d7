use Rattle.laws_found.proofs.CallsLemmas.Called as lemmas
use Rattle.laws_found.proofs.calls.instance_is_called_so.Goals as goal

pub returns : goal.returns
returns c = lemmas.instance_is_called_so
