use Rattle.plus_state.specs.View.{rate_of}
use Rattle.plus_state.proofs.TestsLemmas.{next_member, no_member}
use Rattle.plus_settle.proofs.CouplingLemmas.{naming_start, naming_inside, naming_next, naming_found}
use Rattle.plus_settle.proofs.coupling.moving_rate.Goals as goal

pub each-init : goal.each-init
each-init g c = naming_start _ _ _ c.requires

pub moving_name-requires : goal.moving_name-requires
moving_name-requires g c =
    let e = next_member (rate_of g.Q.Exact.value) c.args.list.now c.each.rate-index c.rate-item.result c.each-test.true c.rate-item.is in
    (naming_inside _ _ _ _ _ (rw e at c.each.invariant)).1

pub returns-in-Some : goal.returns-in-Some
returns-in-Some g c =
    let e = next_member (rate_of g.Q.Exact.value) c.args.list.now c.each.rate-index c.rate-item.result c.each-test.true c.rate-item.is in
    naming_found _ _ _ _ _ (rw e at c.each.invariant) _ c.in-Some.ensures

pub each-preserved : goal.each-preserved
each-preserved g c =
    let e = next_member (rate_of g.Q.Exact.value) c.args.list.now c.each.rate-index c.rate-item.result c.each-test.true c.rate-item.is in
    naming_next _ _ _ _ _ (rw e at c.each.invariant) c.in-None.ensures

pub returns : goal.returns
returns g c = (rw (no_member (rate_of g.Q.Exact.value) c.args.list.now c.each.rate-index c.each-test.false) at c.each.invariant).so_far
