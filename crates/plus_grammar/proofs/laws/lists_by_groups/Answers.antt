use Rattle.plus_grammar.proofs.Lists.{lists_by_groups}
use Rattle.plus_grammar.proofs.laws.lists_by_groups.Goals as goal

pub returns : goal.returns
returns c = lists_by_groups
