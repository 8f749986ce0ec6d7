use Rattle.plus_grammar.proofs.Functions.{functions_by_groups}
use Rattle.plus_grammar.proofs.laws.functions_by_groups.Goals as goal

pub returns : goal.returns
returns c = functions_by_groups
