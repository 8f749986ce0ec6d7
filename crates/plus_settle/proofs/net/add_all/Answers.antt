use Rattle.plus_state.specs.View.{rate_of}
use Rattle.plus_state.proofs.TestsLemmas.{next_member, no_member}
use Rattle.plus_settle.proofs.RatesLemmas.{adding_inside, adding_next, adding_stop, adding_end}
use Rattle.plus_settle.proofs.net.add_all.Goals as goal

pub add_rate-requires-clause-fits : goal.add_rate-requires-clause-fits
add_rate-requires-clause-fits g c =
    let e = next_member (rate_of g.Q.Exact.value) c.args.list.now c.each.rate-index c.rate-item.result c.each-test.true c.rate-item.is in
    adding_inside _ _ _ _ _ _ _ (rw e at c.each.invariant)

pub returns-in-Err-clause-told : goal.returns-in-Err-clause-told
returns-in-Err-clause-told g c =
    let e = next_member (rate_of g.Q.Exact.value) c.args.list.now c.each.rate-index c.rate-item.result c.each-test.true c.rate-item.is in
    adding_stop _ _ _ _ _ _ _ (rw e at c.each.invariant) g.Q.Exact.value c.in-Err.stop c.in-Err.ensures.told.0 c.in-Err.ensures.told.1

pub each-preserved : goal.each-preserved
each-preserved g c =
    let e = next_member (rate_of g.Q.Exact.value) c.args.list.now c.each.rate-index c.rate-item.result c.each-test.true c.rate-item.is in
    adding_next _ _ _ _ _ _ _ (rw e at c.each.invariant) _ c.in-Ok.ensures.size c.in-Ok.ensures.told.0 c.in-Ok.ensures.told.1

pub returns-clause-told : goal.returns-clause-told
returns-clause-told g c = adding_end _ _ _ _ _ (rw (no_member (rate_of g.Q.Exact.value) c.args.list.now c.each.rate-index c.each-test.false) at c.each.invariant)
