use Rattle.plus_validator.proofs.Deciding as deciding
use Rattle.plus_validator.proofs.laws.valid_is_tame.Goals as goal

pub returns : goal.returns
returns c = deciding.valid_is_tame
