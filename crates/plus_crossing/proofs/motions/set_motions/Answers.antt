use Rattle.std.proofs.Common.{refl}
use Rattle.std.proofs.lemmas.List.{drop_all}
use Rattle.plus_crossing.proofs.Drifting.{drifting_start, drifting_inside, drifting_there, drifting_fit, drifting_next, drifting_end}
use Rattle.plus_crossing.proofs.Places.{sorted_keys, next_entry}
use Rattle.plus_crossing.proofs.motions.set_motions.Goals as goal

pub each-init : goal.each-init
each-init g c =
    drifting_start g.Q.Exact.value _ _ _ _ _ _ _ c.given-given.ensures.rates (sorted_keys _ c.given-given.ensures.rising) c.given-given.ensures.inside refl c.requires.rates c.requires.ahead.fluents_fit c.requires.fit

pub fluent-requires : goal.fluent-requires
fluent-requires g c =
    let e = next_entry c.given-given.result.now c.each.entry-index c.entry-item.result c.each-test.true c.entry-item.is in
    drifting_inside g.Q.Exact.value _ _ _ _ _ _ _ _ _ _ e c.each.invariant

pub drift-requires-clause-fluent : goal.drift-requires-clause-fluent
drift-requires-clause-fluent g c =
    let e = next_entry c.given-given.result.now c.each.entry-index c.entry-item.result c.each-test.true c.entry-item.is in
    drifting_there g.Q.Exact.value _ _ _ _ _ _ _ _ _ _ e c.each.invariant

pub drift-requires-clause-fit : goal.drift-requires-clause-fit
drift-requires-clause-fit g c =
    let e = next_entry c.given-given.result.now c.each.entry-index c.entry-item.result c.each-test.true c.entry-item.is in
    drifting_fit g.Q.Exact.value _ _ _ _ _ _ _ _ _ _ e c.each.invariant _ c.fluent.ensures

pub each-preserved : goal.each-preserved
each-preserved g c =
    let e = next_entry c.given-given.result.now c.each.entry-index c.entry-item.result c.each-test.true c.entry-item.is in
    drifting_next g.Q.Exact.value _ _ _ _ _ _ _ _ _ _ e c.each.invariant _ _ c.fluent.ensures c.drift.ensures

pub returns : goal.returns
returns g c = drifting_end g.Q.Exact.value _ _ _ _ _ _ _ (drop_all _ _ c.each-test.false) c.each.invariant
