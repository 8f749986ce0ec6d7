use Rattle.plus_grammar.proofs.Wholes.{constraints_spelled}
use Rattle.plus_grammar.proofs.laws.constraints_spelled.Goals as goal

pub returns : goal.returns
returns c = constraints_spelled
