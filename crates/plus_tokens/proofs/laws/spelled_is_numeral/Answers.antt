use Rattle.plus_tokens.proofs.Numerals.{spelled_is_numeral}
use Rattle.plus_tokens.proofs.laws.spelled_is_numeral.Goals as goal

pub returns : goal.returns
returns c = spelled_is_numeral
