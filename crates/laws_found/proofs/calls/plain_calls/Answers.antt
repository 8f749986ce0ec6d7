use Rattle.laws_found.proofs.CallsLemmas.Plain as lemmas
use Rattle.laws_found.proofs.calls.plain_calls.Goals as goal

pub returns : goal.returns
returns c = lemmas.plain_calls
