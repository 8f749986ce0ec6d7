use Rattle.plus_validator.proofs.Ending as ending
use Rattle.plus_validator.proofs.laws.invalid_is_tame.Goals as goal

pub returns : goal.returns
returns c = ending.invalid_is_tame
