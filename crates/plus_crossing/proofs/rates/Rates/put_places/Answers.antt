use Rattle.std.proofs.Common.{arith}
use Rattle.plus_crossing.proofs.Places.{making_next, made_same}
use Rattle.plus_crossing.proofs.rates.Rates.put_places.Goals as goal
use Rattle.plus_crossing.proofs.rates.Rates.put_places.Goals.{then-below-number+then-number-self+in_ok-push, else-below-number}

pub invariant_of-self : goal.invariant_of-self
invariant_of-self g c = (c.each.invariant.inside, c.each.invariant.within, c.each.invariant.rise)

pub each-preserved : goal.each-preserved
each-preserved g c = elim c.if-below-number.branch [
  | then-below-number+then-number-self+in_ok-push w ↦
      rw (w.given-is, w.below-is) (making_next g.Q.Exact.value _ _ _ _ _ _ c.each.invariant w.if-below-number.true w.if-number-self.true w.zero.ensures w.in_ok-push.ensures.items)
  | else-below-number w ↦ rw (w.given-is, w.below-is) c.each.invariant
]

pub returns : goal.returns
returns g c = made_same g.Q.Exact.value _ _ _ _ _ _ c.each.invariant c.self.view_is (omega (arith, c.if-self-ne0.false)) c.self.invariant.0
