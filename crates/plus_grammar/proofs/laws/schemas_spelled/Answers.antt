use Rattle.plus_grammar.proofs.Wholes.{schemas_spelled}
use Rattle.plus_grammar.proofs.laws.schemas_spelled.Goals as goal

pub returns : goal.returns
returns c = schemas_spelled
