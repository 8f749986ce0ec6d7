use Rattle.plus_validator.proofs.OneJudgement as judgements
use Rattle.plus_validator.proofs.laws.judged_as_checked.Goals as goal

pub returns : goal.returns
returns c = judgements.judged_as_checked
