use Rattle.laws_translation.proofs.RunLemmas as runs
use Rattle.laws_translation.proofs.runs.runs_are_stepped.Goals as goal

pub returns : goal.returns
returns c = runs.runs_are_stepped _
