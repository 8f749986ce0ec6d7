use Rattle.plus_validator.proofs.OneLine as lines
use Rattle.plus_validator.proofs.laws.one_line.Goals as goal

pub returns : goal.returns
returns c = lines.one_line
