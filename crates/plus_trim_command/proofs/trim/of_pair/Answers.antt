use Rattle.std.proofs.Common.{[]}
use Rattle.plus_io.proofs.Readings.{one_read}
use Rattle.plus_trim_command.specs.Lines.{IsPlanText}
use Rattle.plus_trim_command.specs.Trim.{TrimsPair}
use Rattle.plus_trim_command.proofs.Told.{pair_same, on_some}
use Rattle.plus_trim_command.proofs.trim.of_pair.Goals as goal

pub returns-in-Ok-of_text-clause-replies : goal.returns-in-Ok-of_text-clause-replies
returns-in-Ok-of_text-clause-replies g c =
    let d = c.args.typed.now.domain in
    let p = c.args.typed.now.problem in
    on_some (g.S.Shelf.bytes c.args.shelf.now c.args.plan.now) (λ bytes. IsPlanText bytes c.in-Ok.text.items)
    (λ ls. TrimsPair d p ls c.in-Ok-of_text.reply.status c.in-Ok-of_text.reply.text.items)
    (λ ls k. pair_same d p ls c.in-Ok.text.items c.in-Ok-of_text.reply.status c.in-Ok-of_text.reply.text.items k (rw c.deref.ensures.value at c.in-Ok-of_text.ensures.replies)) c.in-Ok.ensures.read

pub returns-in-Ok-of_text-clause-reads : goal.returns-in-Ok-of_text-clause-reads
returns-in-Ok-of_text-clause-reads g c = one_read _ _ _ _ _ c.args.plan.now [] _ _ c.in-Ok.ensures.reads
