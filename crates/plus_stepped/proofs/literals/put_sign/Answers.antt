use Rattle.std.proofs.Common.{sym, ◌∙◌}
use Rattle.plus_state.specs.View.{timed_of}
use Rattle.plus_state.proofs.TestsLemmas.{next_member}
use Rattle.plus_stepped.proofs.PuttingLemmas.{putting_inside, putting_put, putting_skip, same_sign}
use Rattle.plus_stepped.proofs.literals.put_sign.Goals as goal
use Rattle.plus_stepped.proofs.literals.put_sign.Goals.{then-literal-positive, else-literal-positive}

pub put-requires : goal.put-requires
put-requires g c =
    let e = next_member (timed_of g.Q.Exact.value) c.args.due.now c.each.literal-index c.literal-item.result c.each-test.true c.literal-item.is in
    putting_inside _ _ _ _ _ _ (rw e at c.each.invariant)

pub each-preserved : goal.each-preserved
each-preserved g c =
    let e = next_member (timed_of g.Q.Exact.value) c.args.due.now c.each.literal-index c.literal-item.result c.each-test.true c.literal-item.is in
    let sign = same_sign c.literal-item.result.positive c.args.positive in
    elim c.if-literal-positive.branch [
      | then-literal-positive w ↦ putting_put _ _ _ _ _ _ (rw e at c.each.invariant) _ (sym sign ∙ w.if-literal-positive.true) (w.state-is ∙ w.put.ensures)
      | else-literal-positive w ↦ rw w.state-is (putting_skip _ _ _ _ _ _ (rw e at c.each.invariant) (sym sign ∙ w.if-literal-positive.false))
    ]
