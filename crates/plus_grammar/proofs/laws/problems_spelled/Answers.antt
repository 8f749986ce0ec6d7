use Rattle.plus_grammar.proofs.Wholes.{problems_spelled}
use Rattle.plus_grammar.proofs.laws.problems_spelled.Goals as goal

pub returns : goal.returns
returns c = problems_spelled
