use Rattle.plus_grammar.proofs.Parentheses.{depth_by_counts}
use Rattle.plus_grammar.proofs.laws.depth_by_counts.Goals as goal

pub returns : goal.returns
returns c = depth_by_counts
