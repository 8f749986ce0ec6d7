use Rattle.plus_tokens.proofs.Found.{found}
use Rattle.plus_tokens.proofs.laws.spelled_is_found.Goals as goal

pub returns : goal.returns
returns c = found
