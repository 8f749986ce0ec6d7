use Rattle.std.proofs.Common.{ap, refl}
use Rattle.std.proofs.lemmas.List.{drop_all}
use Rattle.plus_state.specs.ChangesView.{fluent_changes}
use Rattle.plus_crossing.proofs.Noting.{noting_start, noting_inside, noting_stop, noting_next, noting_end}
use Rattle.plus_crossing.proofs.Places.{sorted_keys, next_entry}
use Rattle.plus_crossing.proofs.moves.moved_fluents.Goals as goal

pub each-init : goal.each-init
each-init g c =
    noting_start g.Q.Exact.value _ _ _ _ _ _ _ (ap (fluent_changes g.Q.Exact.value) c.clear.ensures.items) c.given-given.ensures.rates (sorted_keys _ c.given-given.ensures.rising) c.given-given.ensures.inside refl c.requires

pub fluent-requires : goal.fluent-requires
fluent-requires g c =
    let e = next_entry c.given-given.result.now c.each.entry-index c.entry-item.result c.each-test.true c.entry-item.is in
    noting_inside g.Q.Exact.value _ _ _ _ _ _ _ _ _ e c.each.invariant

pub returns-in-Err : goal.returns-in-Err
returns-in-Err g c =
    let e = next_entry c.given-given.result.now c.each.entry-index c.entry-item.result c.each-test.true c.entry-item.is in
    noting_stop g.Q.Exact.value _ _ _ _ _ _ _ _ _ e c.each.invariant _ c.in-Err.stop c.fluent.ensures c.in-Err.ensures

pub each-preserved : goal.each-preserved
each-preserved g c =
    let e = next_entry c.given-given.result.now c.each.entry-index c.entry-item.result c.each-test.true c.entry-item.is in
    noting_next g.Q.Exact.value _ _ _ _ _ _ _ _ _ e c.each.invariant _ _ c.fluent.ensures c.in-Ok.ensures.0 c.in-Ok.ensures.1

pub returns : goal.returns
returns g c = noting_end g.Q.Exact.value _ _ _ _ _ _ (drop_all _ _ c.each-test.false) c.each.invariant
