use Rattle.plus_reply.proofs.ReplyLemmas.{refusal_plain}
use Rattle.plus_trial.proofs.CommandLemmas.TrialLemmas.{refused_trial, refused_memory}
use Rattle.plus_trial.proofs.command.trial.answer.Goals as goal

pub returns-in_ok-reply-in-Ok-clause-replies : goal.returns-in_ok-reply-in-Ok-clause-replies
returns-in_ok-reply-in-Ok-clause-replies c = c.in_ok-reply-in-Ok.ensures.replies

pub returns-in-Err-clause-replies : goal.returns-in-Err-clause-replies
returns-in-Err-clause-replies c = refused_trial c.args.tanks.number c.in-Err.refusal c.refused.result c.in-Err.ensures.not_read c.refused.ensures

pub returns-in-Err-clause-plain : goal.returns-in-Err-clause-plain
returns-in-Err-clause-plain c = refusal_plain c.in-Err.refusal c.refused.result c.refused.ensures

pub returns-in-Err-clause-memory : goal.returns-in-Err-clause-memory
returns-in-Err-clause-memory c = refused_memory c.args.tanks.number c.in-Err.refusal c.refused.result c.in-Err.ensures.not_read c.refused.ensures
