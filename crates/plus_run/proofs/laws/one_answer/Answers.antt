use Rattle.plus_run.proofs.OneCommand as answers
use Rattle.plus_run.proofs.laws.one_answer.Goals as goal

pub returns : goal.returns
returns c = answers.one_answer
