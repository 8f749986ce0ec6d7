use Rattle.plus_reply.proofs.PairLemmas.TextLemmas.{not_by_domain, not_by_problem, not_by_types, pair_at_texts}
use Rattle.plus_reply.proofs.pair.texts.pair_of.Goals as goal

pub returns-in-Err-clause-not_read : goal.returns-in-Err-clause-not_read
returns-in-Err-clause-not_read c = not_by_domain c.args.domain.now c.args.problem.now c.in-Err.refusal c.in-Err.ensures.not_read

pub returns-in-Err-problem_of-clause-not_read : goal.returns-in-Err-problem_of-clause-not_read
returns-in-Err-problem_of-clause-not_read c =
    not_by_problem c.args.domain.now c.args.problem.now c.in-Ok.domain c.in-Err-problem_of.refusal c.in-Ok.ensures.read c.in-Err-problem_of.ensures.not_read

pub returns-in-Err-check-clause-not_read : goal.returns-in-Err-check-clause-not_read
returns-in-Err-check-clause-not_read c =
    not_by_types c.args.domain.now c.args.problem.now c.in-Ok.domain c.in-Ok-problem_of.problem c.in-Err-check.fault c.refuse_types.result
    c.in-Ok.ensures.read c.in-Ok-problem_of.ensures.read c.in-Err-check.ensures.walks c.refuse_types.ensures

pub returns-in-Ok-check-clause-read : goal.returns-in-Ok-check-clause-read
returns-in-Ok-check-clause-read c =
    pair_at_texts c.args.domain.now c.args.problem.now c.in-Ok.domain c.in-Ok-check.typed.domain c.in-Ok-problem_of.problem c.in-Ok-check.typed.problem
    c.in-Ok.ensures.read c.in-Ok-problem_of.ensures.read c.in-Ok-check.ensures.pair
