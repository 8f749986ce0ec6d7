use Rattle.plus_grammar.proofs.Texts.{constraint_texts}
use Rattle.plus_grammar.proofs.laws.constraint_texts.Goals as goal

pub returns : goal.returns
returns c = constraint_texts
