use Rattle.laws_found.proofs.CallsLemmas.Searched as lemmas
use Rattle.laws_found.proofs.calls.all_calls_are_searched.Goals as goal

pub returns : goal.returns
returns c = lemmas.all_calls_are_searched
