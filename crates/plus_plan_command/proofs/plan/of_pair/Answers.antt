use Rattle.plus_number.specs.Frac.{fraction_of}
use Rattle.plus_plan_command.proofs.PlanLemmas.{answer_told, unsearched_told, unsearched_fault}
use Rattle.plus_plan_command.proofs.plan.of_pair.Goals as goal

pub returns-in-Ok-clause-replies : goal.returns-in-Ok-clause-replies
returns-in-Ok-clause-replies c =
    let s = c.args.search in
    answer_told (fraction_of s.interval.value) s.decisions.number s.tries.number s.is_cut c.args.typed.now.domain c.args.typed.now.problem
    c.in-Ok.answer c.of_answer.result c.in-Ok.ensures c.of_answer.ensures.status c.of_answer.ensures.text

pub returns-in-Ok-clause-memory : goal.returns-in-Ok-clause-memory
returns-in-Ok-clause-memory c = c.of_answer.ensures.memory

pub returns-in-Err-clause-replies : goal.returns-in-Err-clause-replies
returns-in-Err-clause-replies c =
    let s = c.args.search in
    unsearched_told (fraction_of s.interval.value) s.decisions.number s.tries.number s.is_cut c.args.typed.now.domain c.args.typed.now.problem
    c.in-Err.refusal c.refused.result c.in-Err.ensures c.refused.ensures

pub returns-in-Err-clause-memory : goal.returns-in-Err-clause-memory
returns-in-Err-clause-memory c =
    unsearched_fault c.args.typed.now.domain c.args.typed.now.problem c.in-Err.refusal c.refused.result c.in-Err.ensures c.refused.ensures
