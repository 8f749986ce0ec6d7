use Rattle.plus_grammar.proofs.Parentheses.{pairs_by_counts}
use Rattle.plus_grammar.proofs.laws.pairs_by_counts.Goals as goal

pub returns : goal.returns
returns c = pairs_by_counts
