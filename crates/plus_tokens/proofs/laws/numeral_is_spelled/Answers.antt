use Rattle.plus_tokens.proofs.Numerals.{numeral_is_spelled}
use Rattle.plus_tokens.proofs.laws.numeral_is_spelled.Goals as goal

pub returns : goal.returns
returns c = numeral_is_spelled
