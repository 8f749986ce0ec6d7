use Rattle.laws_found.proofs.CallsLemmas.Saying as lemmas
use Rattle.laws_found.proofs.calls.actions_are_called.Goals as goal

pub returns : goal.returns
returns c = record { called = lemmas.called; written = lemmas.written; plain = lemmas.all_plain }
