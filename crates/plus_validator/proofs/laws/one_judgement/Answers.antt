use Rattle.plus_validator.proofs.OneJudgement as judgements
use Rattle.plus_validator.proofs.laws.one_judgement.Goals as goal

pub returns : goal.returns
returns c = judgements.one_judgement
