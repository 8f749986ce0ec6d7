use Rattle.std.proofs.Common.{refl}
use Rattle.plus_state.specs.ChangesView.{fluent_change}
use Rattle.plus_state.proofs.TestsLemmas.{next_member, no_member}
use Rattle.plus_state.specs.WritesView.{written}
use Rattle.plus_state.proofs.OpenLemmas.{valuing_err, valuing_next, valuing_end, ended_some, ended_none}
use Rattle.plus_state.proofs.values.values.Goals as goal

pub returns-in-Err : goal.returns-in-Err
returns-in-Err g c =
    let e = next_member (written g.Q.Exact.value) c.args.writes.now c.each.write-index c.write-item.result c.each-test.true c.write-item.is in
    valuing_err _ _ _ _ _ _ c.args.state.now _ _ (rw e at c.each.invariant) c.current.ensures c.in-Err.ensures

pub each-preserved : goal.each-preserved
each-preserved g c =
    let e = next_member (written g.Q.Exact.value) c.args.writes.now c.each.write-index c.write-item.result c.each-test.true c.write-item.is in
    valuing_next _ _ _ _ _ _ c.args.state.now _ _ _ _ (rw e at c.each.invariant) c.current.ensures c.in-Ok.ensures.0 c.in-Ok.ensures.1 c.in-Ok-shut.ensures refl

pub returns-in-None : goal.returns-in-None
returns-in-None g c =
    let h = rw (no_member (written g.Q.Exact.value) c.args.writes.now c.each.write-index c.each-test.false) at c.each.invariant in
    valuing_end _ _ _ _ _ _ h (ended_none (fluent_change g.Q.Exact.value) c.each.changes.items c.each.last c.in-None.is)

pub returns-in-Ok-push : goal.returns-in-Ok-push
returns-in-Ok-push g c =
    let h = rw (no_member (written g.Q.Exact.value) c.args.writes.now c.each.write-index c.each-test.false) at c.each.invariant in
    valuing_end _ _ _ _ _ _ h (ended_some (fluent_change g.Q.Exact.value) c.each.changes.items _ c.each.last c.in-Some.c c.in-Ok-push.ensures.items c.in-Some.is)
