use Rattle.plus_grammar.proofs.FormLaws.{effects_by_groups}
use Rattle.plus_grammar.proofs.laws.effects_by_groups.Goals as goal

pub returns : goal.returns
returns c = effects_by_groups
