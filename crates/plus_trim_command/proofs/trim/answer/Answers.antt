use Rattle.std.proofs.Common.{[], ◌∷◌, ap}
use Rattle.plus_io.proofs.Pieces.{KeepsFiles-trans}
use Rattle.plus_io.proofs.Readings.{each_then, of_more}
use Rattle.plus_reply.proofs.ReplyLemmas.{refusal_plain, refusal_cause, pair_cause}
use Rattle.plus_trim_command.proofs.Told.{pair_told, refusal_told, cause_since}
use Rattle.plus_trim_command.proofs.trim.answer.Goals as goal

pub returns-in-Ok-clause-replies : goal.returns-in-Ok-clause-replies
returns-in-Ok-clause-replies g c =
    pair_told _ _ _ c.in-Ok.typed.domain c.in-Ok.typed.problem _ c.of_pair-reply.result
    (ap (λ f. f c.args.plan.now) c.in-Ok.ensures.keeps.same_bytes) c.in-Ok.ensures.read c.in-Ok.typed.well_typed c.of_pair-reply.ensures.replies

pub returns-in-Ok-clause-plain : goal.returns-in-Ok-clause-plain
returns-in-Ok-clause-plain g c = c.of_pair-reply.ensures.plain

pub returns-in-Ok-clause-fault : goal.returns-in-Ok-clause-fault
returns-in-Ok-clause-fault g c = cause_since _ _ _ c.of_pair-reply.result c.in-Ok.ensures.keeps.no_fall c.of_pair-reply.ensures.fault

pub returns-in-Ok-clause-reads : goal.returns-in-Ok-clause-reads
returns-in-Ok-clause-reads g c =
    each_then _ _ _ _ _ (c.args.domain.now ∷ c.args.problem.now ∷ []) (c.args.plan.now ∷ []) _ _ _ c.in-Ok.ensures.both c.of_pair-reply.ensures.reads

pub returns-in-Ok-clause-keeps : goal.returns-in-Ok-clause-keeps
returns-in-Ok-clause-keeps g c = KeepsFiles-trans _ _ _ c.in-Ok.ensures.keeps c.of_pair-reply.ensures.keeps

pub returns-in-Err-clause-replies : goal.returns-in-Err-clause-replies
returns-in-Err-clause-replies g c = refusal_told _ _ _ _ _ c.in-Err.refusal c.refused.result c.in-Err.ensures.not_read c.refused.ensures

pub returns-in-Err-clause-plain : goal.returns-in-Err-clause-plain
returns-in-Err-clause-plain g c = refusal_plain c.in-Err.refusal c.refused.result c.refused.ensures

pub returns-in-Err-clause-fault : goal.returns-in-Err-clause-fault
returns-in-Err-clause-fault g c =
    refusal_cause c.in-Err.refusal _ _ c.refused.result (pair_cause _ _ _ _ c.in-Err.refusal c.in-Err.ensures.not_read) c.refused.ensures

pub returns-in-Err-clause-reads : goal.returns-in-Err-clause-reads
returns-in-Err-clause-reads g c =
    of_more _ _ _ _ _ (c.args.domain.now ∷ c.args.problem.now ∷ []) (c.args.plan.now ∷ []) _ _ c.in-Err.ensures.reads

pub returns-in-Err-clause-keeps : goal.returns-in-Err-clause-keeps
returns-in-Err-clause-keeps g c = c.in-Err.ensures.keeps
