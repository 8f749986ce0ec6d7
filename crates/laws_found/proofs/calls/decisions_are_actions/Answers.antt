use Rattle.laws_found.proofs.CallsLemmas.Deciding as lemmas
use Rattle.laws_found.proofs.calls.decisions_are_actions.Goals as goal

pub returns : goal.returns
returns c = record { lines = lemmas.lines; labels = lemmas.labels; ground = lemmas.ground; times = lemmas.times }
