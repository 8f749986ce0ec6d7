use Rattle.plus_validator.proofs.Deciding as deciding
use Rattle.plus_validator.proofs.laws.decides.Goals as goal

pub returns : goal.returns
returns c = deciding.decides
