use Rattle.laws_found.proofs.CallsLemmas.Saying as lemmas
use Rattle.laws_found.proofs.calls.lines_mean_actions.Goals as goal

pub returns : goal.returns
returns c = record { meant = lemmas.meant; within = lemmas.within }
