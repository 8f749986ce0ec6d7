use Rattle.plus_typing.proofs.Above.{above_decided}
use Rattle.plus_typing.proofs.laws.above_is_decided.Goals as goal

pub returns : goal.returns
returns c = above_decided
