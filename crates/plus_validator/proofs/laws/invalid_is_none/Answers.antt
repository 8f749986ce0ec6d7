use Rattle.plus_validator.proofs.Deciding as deciding
use Rattle.plus_validator.proofs.laws.invalid_is_none.Goals as goal

pub returns : goal.returns
returns c = deciding.invalid_is_none
