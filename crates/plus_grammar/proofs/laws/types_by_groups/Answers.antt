use Rattle.plus_grammar.proofs.Lists.{types_by_groups}
use Rattle.plus_grammar.proofs.laws.types_by_groups.Goals as goal

pub returns : goal.returns
returns c = types_by_groups
