use Rattle.plus_tokens.proofs.Read.{none}
use Rattle.plus_tokens.proofs.laws.none_is_a_gap.Goals as goal

pub returns : goal.returns
returns c = none
