use Rattle.plus_grammar.proofs.Problems.{problems_by_counts}
use Rattle.plus_grammar.proofs.laws.problems_by_counts.Goals as goal

pub returns : goal.returns
returns c = problems_by_counts
