use Rattle.laws_found.proofs.CallsLemmas.Deciding as lemmas
use Rattle.laws_found.proofs.calls.found_plan_is_called.Goals as goal

pub returns : goal.returns
returns c = lemmas.found_plan_is_called
