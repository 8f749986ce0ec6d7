use Rattle.std.proofs.Common.{sym, ◌∙◌}
use Rattle.std.proofs.lemmas.List.{append-nil}
use Rattle.plus_state.proofs.TestsLemmas.{next_member, no_member}
use Rattle.plus_stretch.specs.declared.mark.Mark.{Mark}
use Rattle.plus_stretch.proofs.Thinned.{thinning_next}
use Rattle.plus_stretch.proofs.sorted.thin.Goals as goal

pub each-preserved : goal.each-preserved
each-preserved g c =
    let e = next_member (λ (m : Mark _). g.Q.Exact.value m.at) c.args.sorted.now c.each.mark-index c.mark-item.result c.each-test.true c.mark-item.is in
    thinning_next _ _ _ _ _ _ _ _ (rw e at c.each.invariant) c.is_kept.ensures c.in_ok-append_if.ensures

pub returns : goal.returns
returns g c =
    let h = rw (no_member (λ (m : Mark _). g.Q.Exact.value m.at) c.args.sorted.now c.each.mark-index c.each-test.false) at c.each.invariant in
    sym (append-nil _) ∙ h.so_far
