use Rattle.plus_tokens.proofs.Found.{one}
use Rattle.plus_tokens.proofs.laws.one_first_token.Goals as goal

pub returns : goal.returns
returns c = one
