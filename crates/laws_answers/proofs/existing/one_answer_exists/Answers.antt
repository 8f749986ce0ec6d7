use Rattle.laws_answers.proofs.ExistingLemmas as laws
use Rattle.laws_answers.proofs.existing.one_answer_exists.Goals as goal

pub returns : goal.returns
returns c = laws.one_answer_exists
