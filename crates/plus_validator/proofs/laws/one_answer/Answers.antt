use Rattle.plus_validator.proofs.OneText as texts
use Rattle.plus_validator.proofs.laws.one_answer.Goals as goal

pub returns : goal.returns
returns c = texts.one_answer
