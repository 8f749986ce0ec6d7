use Rattle.plus_validator.proofs.OneJudgement as judgements
use Rattle.plus_validator.proofs.laws.checked_as_judged.Goals as goal

pub returns : goal.returns
returns c = judgements.checked_as_judged
