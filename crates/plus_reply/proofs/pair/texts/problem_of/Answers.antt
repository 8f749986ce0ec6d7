use Rattle.std.proofs.Common.{arith, Some, refl}
use Rattle.plus_reply.proofs.PairLemmas.PairLemmas.{problem_read}
use Rattle.plus_reply.proofs.PairLemmas.TextLemmas.{problem_not}
use Rattle.plus_reply.proofs.pair.texts.problem_of.Goals as goal

pub returns-in-Err-clause-not_read : goal.returns-in-Err-clause-not_read
returns-in-Err-clause-not_read c =
    problem_not c.args.text.now c.in-Err.fault c.refuse_text.result (omega arith) c.in-Err.ensures.placed c.refuse_text.ensures

pub returns-in-Ok-clause-read : goal.returns-in-Ok-clause-read
returns-in-Ok-clause-read c = problem_read (Some c.args.text.now) c.args.text.now c.in-Ok.problem (refl, omega arith) c.in-Ok.ensures.found
