use Rattle.laws_answers.proofs.StatusLemmas as answers
use Rattle.laws_answers.proofs.statuses.by_status.Goals as goal

pub returns : goal.returns
returns c = answers.by_status
