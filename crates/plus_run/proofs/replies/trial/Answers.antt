use Rattle.plus_run.proofs.ReplyLemmas.{no_faults, reply_answer}
use Rattle.plus_run.proofs.replies.trial.Goals as goal

pub returns-clause-answers : goal.returns-clause-answers
returns-clause-answers g c = λ bytes before now.
    reply_answer _ bytes _ _ before now _ _ _ c.answer-reply.result c.answer-reply.ensures.replies c.answer-reply.ensures.plain
    (no_faults before now c.answer-reply.result c.answer-reply.ensures.memory) c.give.ensures.gives
