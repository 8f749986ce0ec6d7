use Rattle.plus_grammar.proofs.Texts.{problem_texts}
use Rattle.plus_grammar.proofs.laws.problem_texts.Goals as goal

pub returns : goal.returns
returns c = problem_texts
