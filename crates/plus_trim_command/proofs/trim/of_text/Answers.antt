use Rattle.std.proofs.Common.{ap}
use Rattle.plus_trim_command.specs.Trim.{TrimsPair}
use Rattle.plus_reply.specs.Reply.{IsPlain}
use Rattle.plus_stretch.proofs.Marks.{ok_as}
use Rattle.plus_trim_command.proofs.Told.{accepts, is_accepted, is_refused, refused_told, plain_pair}
use Rattle.plus_trim_command.proofs.trim.of_text.Goals as goal

pub of_accepted-requires : goal.of_accepted-requires
of_accepted-requires c =
    accepts c.args.typed.now.domain c.args.typed.now.problem c.args.text.now c.in_ok-judged.judged c.in_ok-judged.ensures.judged
    (is_accepted c.outcome.result c.in_ok-judged.judged.verdict c.is_valid.result c.outcome.ensures c.is_valid.ensures c.if-is_valid.true)

pub returns-then-is_valid-clause-replies : goal.returns-then-is_valid-clause-replies
returns-then-is_valid-clause-replies c = c.of_accepted.ensures

pub returns-then-is_valid-clause-plain : goal.returns-then-is_valid-clause-plain
returns-then-is_valid-clause-plain c =
    let d = c.args.typed.now.domain in
    let p = c.args.typed.now.problem in
    ok_as c.of_accepted.result (λ r. TrimsPair d p c.args.text.now r.status r.text.items) (λ r. IsPlain r.status)
    (λ r k. plain_pair d p c.args.text.now r.status r.text.items k) c.of_accepted.ensures

pub returns-clause-replies : goal.returns-clause-replies
returns-clause-replies c =
    refused_told c.args.typed.now.domain c.args.typed.now.problem c.args.text.now c.in_ok-judged.judged c.of_refused-reply.result.status c.of_refused-reply.result.text.items
    c.in_ok-judged.ensures.judged
    (is_refused c.outcome.result c.in_ok-judged.judged.verdict c.is_valid.result c.outcome.ensures c.is_valid.ensures c.if-is_valid.false)
    c.of_refused-reply.ensures.status (ap (λ v. v.items) c.of_refused-reply.ensures.text)

pub returns-clause-plain : goal.returns-clause-plain
returns-clause-plain c =
    plain_pair c.args.typed.now.domain c.args.typed.now.problem c.args.text.now c.of_refused-reply.result.status c.of_refused-reply.result.text.items
    (refused_told c.args.typed.now.domain c.args.typed.now.problem c.args.text.now c.in_ok-judged.judged c.of_refused-reply.result.status c.of_refused-reply.result.text.items
    c.in_ok-judged.ensures.judged
    (is_refused c.outcome.result c.in_ok-judged.judged.verdict c.is_valid.result c.outcome.ensures c.is_valid.ensures c.if-is_valid.false)
    c.of_refused-reply.ensures.status (ap (λ v. v.items) c.of_refused-reply.ensures.text))
