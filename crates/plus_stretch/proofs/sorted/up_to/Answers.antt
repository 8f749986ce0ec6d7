use Rattle.std.proofs.Common.{sym, ◌∙◌}
use Rattle.plus_model.proofs.Moments.{from_below}
use Rattle.plus_state.proofs.TestsLemmas.{next_member, no_member}
use Rattle.plus_stretch.specs.Marked.{mark_of}
use Rattle.plus_stretch.proofs.Marks.{counted_start, counted_next, counted_stop, counted_end, at_most}
use Rattle.plus_stretch.proofs.sorted.up_to.Goals as goal

pub each-init : goal.each-init
each-init g c = counted_start _ _

pub returns-then-is_below-clause-first : goal.returns-then-is_below-clause-first
returns-then-is_below-clause-first g c =
    let e = next_member (mark_of g.Q.Exact.value) c.args.marks.now c.each.mark-index c.mark-item.result c.each-test.true c.mark-item.is in
    counted_stop _ _ _ _ _ _ (rw e at c.each.invariant) (from_below _ _ (sym c.is_below.ensures ∙ c.if-is_below.true))

pub each-preserved : goal.each-preserved
each-preserved g c =
    let e = next_member (mark_of g.Q.Exact.value) c.args.marks.now c.each.mark-index c.mark-item.result c.each-test.true c.mark-item.is in
    counted_next _ _ _ _ _ _ (rw e at c.each.invariant) (at_most _ _ (sym c.is_below.ensures ∙ c.if-is_below.false))

pub returns-clause-first : goal.returns-clause-first
returns-clause-first g c =
    let e = no_member (mark_of g.Q.Exact.value) c.args.marks.now c.each.mark-index c.each-test.false in
    counted_end _ _ _ _ (rw e at c.each.invariant)
