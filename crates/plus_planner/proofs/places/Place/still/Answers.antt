use Rattle.std.proofs.Common.{◌+◌, length, take, ap, sym, subst, arith}
use Rattle.plus_planner.specs.Tried.{AllBehind}
use Rattle.plus_planner.proofs.TriedLemmas.{behind_next}
use Rattle.plus_planner.proofs.places.Place.still.Goals as goal

pub tried-preserved : goal.tried-preserved
tried-preserved g c = (
  ap (λ n. n + 1) c.tried.invariant.0,
  behind_next (length c.args.self.now.taken.items) c.tried.tried-index c.deref-tried-items.result.now c.tried-item.result c.tried-test.true c.tried-item.is
      (omega (arith, c.if-tried-here.false, c.len-here.ensures)) c.tried.invariant.1,
)

pub returns-then-tried-here : goal.returns-then-tried-here
returns-then-tried-here g c =
    let n = length c.args.self.now.taken.items in
    subst (λ xs. AllBehind n (take c.tried.count xs)) c.deref-tried-items.ensures.value
    (subst (λ k. AllBehind n (take k c.deref-tried-items.result.now)) (sym c.tried.invariant.0) c.tried.invariant.1)
