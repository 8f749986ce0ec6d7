use Rattle.plus_number.specs.Frac.{fraction_of}
use Rattle.plus_reply.proofs.ReplyLemmas.{pair_cause}
use Rattle.plus_translate_command.proofs.TranslateLemmas.{pair_told, pair_plain, memory_cause, refusal_told, refusal_plain, refusal_cause}
use Rattle.plus_translate_command.proofs.translate.answer.Goals as goal

pub returns-in-Ok-clause-replies : goal.returns-in-Ok-clause-replies
returns-in-Ok-clause-replies g c =
    pair_told c.args.file (fraction_of c.args.interval.value) _ _ c.in-Ok.typed.domain c.in-Ok.typed.problem c.of_pair-reply.result
    c.in-Ok.ensures.read c.in-Ok.typed.well_typed c.of_pair-reply.ensures.replies

pub returns-in-Ok-clause-plain : goal.returns-in-Ok-clause-plain
returns-in-Ok-clause-plain g c =
    pair_plain c.args.file (fraction_of c.args.interval.value) c.in-Ok.typed.domain c.in-Ok.typed.problem c.of_pair-reply.result c.of_pair-reply.ensures.replies

pub returns-in-Ok-clause-fault : goal.returns-in-Ok-clause-fault
returns-in-Ok-clause-fault g c = memory_cause _ _ c.of_pair-reply.result c.of_pair-reply.ensures.memory

pub returns-in-Ok-clause-reads : goal.returns-in-Ok-clause-reads
returns-in-Ok-clause-reads g c = c.in-Ok.ensures.reads

pub returns-in-Ok-clause-keeps : goal.returns-in-Ok-clause-keeps
returns-in-Ok-clause-keeps g c = c.in-Ok.ensures.keeps

pub returns-in-Err-clause-replies : goal.returns-in-Err-clause-replies
returns-in-Err-clause-replies g c =
    refusal_told c.args.file (fraction_of c.args.interval.value) _ _ _ _ c.in-Err.refusal c.half_refused.result c.in-Err.ensures.not_read c.half_refused.ensures

pub returns-in-Err-clause-plain : goal.returns-in-Err-clause-plain
returns-in-Err-clause-plain g c = refusal_plain c.in-Err.refusal c.half_refused.result c.half_refused.ensures

pub returns-in-Err-clause-fault : goal.returns-in-Err-clause-fault
returns-in-Err-clause-fault g c =
    refusal_cause c.in-Err.refusal _ _ c.half_refused.result (pair_cause _ _ _ _ c.in-Err.refusal c.in-Err.ensures.not_read) c.half_refused.ensures

pub returns-in-Err-clause-reads : goal.returns-in-Err-clause-reads
returns-in-Err-clause-reads g c = c.in-Err.ensures.reads

pub returns-in-Err-clause-keeps : goal.returns-in-Err-clause-keeps
returns-in-Err-clause-keeps g c = c.in-Err.ensures.keeps
