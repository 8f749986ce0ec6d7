use Rattle.plus_tokens.proofs.Read.{read}
use Rattle.plus_tokens.proofs.laws.found_is_spelled.Goals as goal

pub returns : goal.returns
returns c = read
