use Rattle.plus_grammar.proofs.Wholes.{domains_spelled}
use Rattle.plus_grammar.proofs.laws.domains_spelled.Goals as goal

pub returns : goal.returns
returns c = domains_spelled
