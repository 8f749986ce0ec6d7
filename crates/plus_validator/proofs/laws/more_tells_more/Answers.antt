use Rattle.plus_validator.proofs.KeepingUp as keeping
use Rattle.plus_validator.proofs.laws.more_tells_more.Goals as goal

pub returns : goal.returns
returns c = keeping.more_tells_more
