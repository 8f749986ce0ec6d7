use Rattle.laws_answers.proofs.ChainLemmas as chained
use Rattle.laws_answers.proofs.chained.few_parameters_have_short_lines.Goals as goal

pub returns : goal.returns
returns c = chained.parameters_have_short_lines c.few_parameters_have_room.ensures
