use Rattle.laws_answers.proofs.CompleteLemmas as answers
use Rattle.laws_answers.proofs.complete.complete.Goals as goal

pub returns : goal.returns
returns c = answers.complete
