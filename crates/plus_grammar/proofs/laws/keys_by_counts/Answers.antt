use Rattle.plus_grammar.proofs.Counts.{keys_by_counts}
use Rattle.plus_grammar.proofs.laws.keys_by_counts.Goals as goal

pub returns : goal.returns
returns c = keys_by_counts
