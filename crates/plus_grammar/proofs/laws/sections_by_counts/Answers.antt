use Rattle.plus_grammar.proofs.Counts.{sections_by_counts}
use Rattle.plus_grammar.proofs.laws.sections_by_counts.Goals as goal

pub returns : goal.returns
returns c = sections_by_counts
