use Rattle.plus_number.specs.Frac.{fraction_of}
use Rattle.plus_reply.proofs.ReplyLemmas.{refusal_plain, refusal_cause, pair_cause}
use Rattle.plus_plan_command.proofs.PlanLemmas.{pair_told, pair_plain, memory_cause, refusal_told}
use Rattle.plus_plan_command.proofs.plan.answer.Goals as goal

pub returns-in-Ok-clause-replies : goal.returns-in-Ok-clause-replies
returns-in-Ok-clause-replies g c =
    let s = c.args.search in
    pair_told (fraction_of s.interval.value) s.decisions.number s.tries.number s.is_cut _ _ c.in-Ok.typed.domain c.in-Ok.typed.problem c.of_pair-reply.result
    c.in-Ok.ensures.read c.in-Ok.typed.well_typed c.of_pair-reply.ensures.replies

pub returns-in-Ok-clause-plain : goal.returns-in-Ok-clause-plain
returns-in-Ok-clause-plain g c =
    let s = c.args.search in
    pair_plain (fraction_of s.interval.value) s.decisions.number s.tries.number s.is_cut c.in-Ok.typed.domain c.in-Ok.typed.problem c.of_pair-reply.result c.of_pair-reply.ensures.replies

pub returns-in-Ok-clause-fault : goal.returns-in-Ok-clause-fault
returns-in-Ok-clause-fault g c = memory_cause _ _ c.of_pair-reply.result c.of_pair-reply.ensures.memory

pub returns-in-Ok-clause-reads : goal.returns-in-Ok-clause-reads
returns-in-Ok-clause-reads g c = c.in-Ok.ensures.reads

pub returns-in-Ok-clause-keeps : goal.returns-in-Ok-clause-keeps
returns-in-Ok-clause-keeps g c = c.in-Ok.ensures.keeps

pub returns-in-Err-clause-replies : goal.returns-in-Err-clause-replies
returns-in-Err-clause-replies g c =
    let s = c.args.search in
    refusal_told (fraction_of s.interval.value) s.decisions.number s.tries.number s.is_cut _ _ _ _ c.in-Err.refusal c.refused.result c.in-Err.ensures.not_read c.refused.ensures

pub returns-in-Err-clause-plain : goal.returns-in-Err-clause-plain
returns-in-Err-clause-plain g c = refusal_plain c.in-Err.refusal c.refused.result c.refused.ensures

pub returns-in-Err-clause-fault : goal.returns-in-Err-clause-fault
returns-in-Err-clause-fault g c =
    refusal_cause c.in-Err.refusal _ _ c.refused.result (pair_cause _ _ _ _ c.in-Err.refusal c.in-Err.ensures.not_read) c.refused.ensures

pub returns-in-Err-clause-reads : goal.returns-in-Err-clause-reads
returns-in-Err-clause-reads g c = c.in-Err.ensures.reads

pub returns-in-Err-clause-keeps : goal.returns-in-Err-clause-keeps
returns-in-Err-clause-keeps g c = c.in-Err.ensures.keeps
