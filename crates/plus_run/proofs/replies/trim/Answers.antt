use Rattle.plus_run.proofs.ReplyLemmas.{reply_answer}
use Rattle.plus_run.proofs.replies.trim.Goals as goal

pub returns-clause-answers : goal.returns-clause-answers
returns-clause-answers g c =
    reply_answer _ _ _ _ _ _ _ _ _ c.answer-reply.result c.answer-reply.ensures.replies c.answer-reply.ensures.plain c.answer-reply.ensures.fault
    c.give.ensures.gives
