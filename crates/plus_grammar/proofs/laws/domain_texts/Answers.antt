use Rattle.plus_grammar.proofs.Texts.{domain_texts}
use Rattle.plus_grammar.proofs.laws.domain_texts.Goals as goal

pub returns : goal.returns
returns c = domain_texts
