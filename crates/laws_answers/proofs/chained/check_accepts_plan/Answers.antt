use Rattle.laws_answers.proofs.ChainLemmas as chained
use Rattle.laws_answers.proofs.chained.check_accepts_plan.Goals as goal

pub returns : goal.returns
returns c = chained.check_accepts_plan c.what_plan_writes_is_accepted.ensures c.few_decisions_have_room.ensures c.one_answer.ensures
