use Rattle.laws_translation.proofs.RunLemmas as runs
use Rattle.laws_translation.proofs.runs.literals_are_in_time.Goals as goal

pub returns : goal.returns
returns c = record { ordered = runs.ordered_is_in_time; expanded = runs.expanded_is_in_time }
