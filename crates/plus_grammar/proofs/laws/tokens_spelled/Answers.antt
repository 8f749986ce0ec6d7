use Rattle.plus_grammar.proofs.Texts.{tokens_spelled}
use Rattle.plus_grammar.proofs.laws.tokens_spelled.Goals as goal

pub returns : goal.returns
returns c = tokens_spelled
