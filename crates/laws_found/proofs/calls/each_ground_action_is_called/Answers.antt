use Rattle.laws_found.proofs.CallsLemmas.Grounded as lemmas
use Rattle.laws_found.proofs.calls.each_ground_action_is_called.Goals as goal

pub returns : goal.returns
returns c = lemmas.each_ground_action_is_called
