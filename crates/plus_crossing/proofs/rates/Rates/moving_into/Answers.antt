use Rattle.std.proofs.Common.{◌∙◌, ◌++◌, ap₂, sym}
use Rattle.plus_crossing.specs.Rated.{fluent_numbers}
use Rattle.plus_crossing.proofs.Rated.{in_more, moving_keys, moving_is, noted_still, noted_moving}
use Rattle.plus_crossing.proofs.Places.{sorted_keys, next_entry}
use Rattle.plus_crossing.proofs.rates.Rates.moving_into.Goals as goal
use Rattle.plus_crossing.proofs.rates.Rates.moving_into.Goals.{then-not-is_zero+in_ok-push, else-not-is_zero}

pub each-init : goal.each-init
each-init g c =
    ap₂ (λ fs es. fluent_numbers fs ++ moving_keys g.Q.Exact.value es) c.clear.ensures.items c.deref-entry-items.ensures.value
    ∙ moving_is g.Q.Exact.value _ _ _ c.self.view_is (sorted_keys _ c.self.invariant.2) (in_more _ _ _ c.self.invariant.1 c.self.invariant.0)

pub each-preserved : goal.each-preserved
each-preserved g c =
    let e = next_entry c.deref-entry-items.result.now c.each.entry-index c.entry-item.result c.each-test.true c.entry-item.is in
    elim c.if-not-is_zero.branch [
      | then-not-is_zero+in_ok-push w ↦
          rw w.fluents-is (noted_moving g.Q.Exact.value _ _ _ _ _ _ _ (sym c.is_zero.ensures ∙ w.if-not-is_zero.true) e w.in_ok-push.ensures.items c.each.invariant)
      | else-not-is_zero w ↦
          rw w.fluents-is (noted_still g.Q.Exact.value _ _ _ _ _ (sym c.is_zero.ensures ∙ w.if-not-is_zero.false) e c.each.invariant)
    ]
