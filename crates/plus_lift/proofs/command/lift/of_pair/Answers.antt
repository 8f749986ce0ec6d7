use Rattle.std.proofs.Common.{[], ◌∷◌}
use Rattle.plus_number.specs.Frac.{fraction_of}
use Rattle.plus_io.proofs.Readings.{none_read}
use Rattle.plus_reply.proofs.ReplyLemmas.{refusal_plain}
use Rattle.plus_lift.proofs.CommandLemmas.LiftLemmas.{no_texts_told, no_texts_cause, texts_told, keeps_same}
use Rattle.plus_lift.proofs.command.lift.of_pair.Goals as goal

pub returns-in-Ok-clause-replies : goal.returns-in-Ok-clause-replies
returns-in-Ok-clause-replies g c =
    texts_told (fraction_of c.args.interval.value) c.args.typed.now.domain c.args.typed.now.problem _
    c.in-Ok.again.domain c.in-Ok.again.problem c.of_texts-reply.result c.in-Ok.ensures c.of_texts-reply.ensures.replies

pub returns-in-Ok-clause-plain : goal.returns-in-Ok-clause-plain
returns-in-Ok-clause-plain g c = c.of_texts-reply.ensures.plain

pub returns-in-Ok-clause-fault : goal.returns-in-Ok-clause-fault
returns-in-Ok-clause-fault g c = c.of_texts-reply.ensures.fault

pub returns-in-Ok-clause-reads : goal.returns-in-Ok-clause-reads
returns-in-Ok-clause-reads g c = c.of_texts-reply.ensures.reads

pub returns-in-Ok-clause-keeps : goal.returns-in-Ok-clause-keeps
returns-in-Ok-clause-keeps g c = c.of_texts-reply.ensures.keeps

pub returns-in-Err-clause-replies : goal.returns-in-Err-clause-replies
returns-in-Err-clause-replies g c =
    no_texts_told (fraction_of c.args.interval.value) c.args.typed.now.domain c.args.typed.now.problem _
    c.in-Err.refusal c.refused.result c.in-Err.ensures c.refused.ensures

pub returns-in-Err-clause-plain : goal.returns-in-Err-clause-plain
returns-in-Err-clause-plain g c = refusal_plain c.in-Err.refusal c.refused.result c.refused.ensures

pub returns-in-Err-clause-fault : goal.returns-in-Err-clause-fault
returns-in-Err-clause-fault g c =
    no_texts_cause (fraction_of c.args.interval.value) c.args.typed.now.domain c.args.typed.now.problem _ _
    c.in-Err.refusal c.refused.result c.in-Err.ensures c.refused.ensures

pub returns-in-Err-clause-reads : goal.returns-in-Err-clause-reads
returns-in-Err-clause-reads g c = none_read _ _ _ _ _ (c.args.plan.now ∷ []) _

pub returns-in-Err-clause-keeps : goal.returns-in-Err-clause-keeps
returns-in-Err-clause-keeps g c = keeps_same _ _ _ _
