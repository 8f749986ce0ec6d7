use Rattle.plus_validator.proofs.Inside as inside
use Rattle.plus_validator.proofs.laws.in_order_is_tame.Goals as goal

pub returns : goal.returns
returns c = inside.in_order_is_tame
