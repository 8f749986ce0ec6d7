use Rattle.std.proofs.Common.{arith, Some, refl}
use Rattle.plus_reply.proofs.PairLemmas.PairLemmas.{domain_read}
use Rattle.plus_reply.proofs.PairLemmas.TextLemmas.{domain_not}
use Rattle.plus_reply.proofs.pair.texts.domain_of.Goals as goal

pub returns-in-Err-clause-not_read : goal.returns-in-Err-clause-not_read
returns-in-Err-clause-not_read c =
    domain_not c.args.text.now c.in-Err.fault c.refuse_text.result (omega arith) c.in-Err.ensures.placed c.refuse_text.ensures

pub returns-in-Ok-clause-read : goal.returns-in-Ok-clause-read
returns-in-Ok-clause-read c = domain_read (Some c.args.text.now) c.args.text.now c.in-Ok.domain (refl, omega arith) c.in-Ok.ensures.found
