use Rattle.std.proofs.Common.{sym, ◌∙◌}
use Rattle.std.proofs.lemmas.List.{append-nil}
use Rattle.plus_state.proofs.TestsLemmas.{next_member, no_member}
use Rattle.plus_stretch.proofs.Thinned.{thinning_next}
use Rattle.plus_watch.proofs.roots.thin.Goals as goal

pub each-preserved : goal.each-preserved
each-preserved g c =
    let e = next_member g.Q.Exact.value c.args.sorted.now c.each.root-index c.root-item.result c.each-test.true c.root-item.is in
    thinning_next _ _ _ _ _ _ _ _ (rw e at c.each.invariant) c.is_kept.ensures c.in_ok-append_if.ensures

pub returns : goal.returns
returns g c =
    let h = rw (no_member g.Q.Exact.value c.args.sorted.now c.each.root-index c.each-test.false) at c.each.invariant in
    sym (append-nil _) ∙ h.so_far
