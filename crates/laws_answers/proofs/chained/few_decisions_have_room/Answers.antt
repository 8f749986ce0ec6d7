use Rattle.laws_answers.proofs.ChainLemmas as chained
use Rattle.laws_answers.proofs.chained.few_decisions_have_room.Goals as goal

pub returns : goal.returns
returns c = chained.few_have_room c.texts_have_plain_names.ensures c.found_plan_is_called.ensures c.written_plan_reads_back.ensures
