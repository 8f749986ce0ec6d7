use Rattle.std.proofs.Common.{arith, sym}
use Rattle.plus_timeline.proofs.InOrder.{least_at, least_none}
use Rattle.plus_timeline.proofs.literals.bound.Goals as goal

pub returns-then-next-len : goal.returns-then-next-len
returns-then-next-len g c =
    least_at g.Q.Exact.value _ _ _ _ c.args.ground.now.timed.items _ c.index.result.now c.args.ground.now.fits.in_order (rw c.deref.ensures.value at c.first_after_near-next.ensures.point)
    (omega (arith, c.if-next-len.true, c.len.ensures)) c.index.ensures c.earlier.ensures

pub returns-else-next-len : goal.returns-else-next-len
returns-else-next-len g c =
    sym (least_none g.Q.Exact.value _ _ c.args.ground.now.timed.items _ (rw c.deref.ensures.value at c.first_after_near-next.ensures.point) (omega (arith, c.if-next-len.false, c.len.ensures)))
