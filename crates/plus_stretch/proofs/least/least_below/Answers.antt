use Rattle.std.proofs.Common.{sym, ◌∙◌}
use Rattle.plus_state.proofs.TestsLemmas.{next_member, no_member}
use Rattle.plus_stretch.specs.Marked.{mark_of}
use Rattle.plus_stretch.proofs.LeastLemmas.{least_start, least_next, least_found, none_found}
use Rattle.plus_stretch.proofs.least.least_below.Goals as goal

pub each-init : goal.each-init
each-init g c = rw c.clear.ensures.items (least_start _ _)

pub each-preserved : goal.each-preserved
each-preserved g c =
    let e = next_member (mark_of g.Q.Exact.value) c.args.marks.now c.each.mark-index c.mark-item.result c.each-test.true c.mark-item.is in
    least_next _ _ _ _ _ _ (rw e at c.each.invariant) _ _ c.in_ok-least.ensures.least c.in_ok-least.ensures.here

pub returns-then-is_below : goal.returns-then-is_below
returns-then-is_below g c =
    let e = no_member (mark_of g.Q.Exact.value) c.args.marks.now c.each.mark-index c.each-test.false in
    least_found _ _ _ _ (rw e at c.each.invariant) (sym c.is_below.ensures ∙ c.if-is_below.true)

pub returns-else-is_below : goal.returns-else-is_below
returns-else-is_below g c =
    let e = no_member (mark_of g.Q.Exact.value) c.args.marks.now c.each.mark-index c.each-test.false in
    none_found _ _ _ _ (rw e at c.each.invariant) (sym c.is_below.ensures ∙ c.if-is_below.false)
