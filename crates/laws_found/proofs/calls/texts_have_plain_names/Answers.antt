use Rattle.laws_found.proofs.CallsLemmas.Spelled as lemmas
use Rattle.laws_found.proofs.calls.texts_have_plain_names.Goals as goal

pub returns : goal.returns
returns c = lemmas.texts_have_plain_names
