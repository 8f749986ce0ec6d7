use Rattle.plus_grammar.proofs.FormLaws.{conditions_by_groups}
use Rattle.plus_grammar.proofs.laws.conditions_by_groups.Goals as goal

pub returns : goal.returns
returns c = conditions_by_groups
