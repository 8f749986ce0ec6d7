use Rattle.laws_answers.proofs.BeginningLemmas as answers
use Rattle.laws_answers.proofs.beginnings.beginnings.Goals as goal

pub returns : goal.returns
returns c = answers.beginnings
