use Rattle.std.proofs.Common.{refl}
use Rattle.std.proofs.lemmas.List.{drop_all}
use Rattle.plus_crossing.proofs.Drifting.{extending_start, extending_inside, extending_next, extending_end}
use Rattle.plus_crossing.proofs.Places.{next_entry}
use Rattle.plus_crossing.proofs.motions.extent.Goals as goal

pub each-init : goal.each-init
each-init g c = extending_start g.Q.Exact.value _ _ _ _ _ c.given-given.ensures.rates c.given-given.ensures.inside refl c.requires

pub fluent-requires : goal.fluent-requires
fluent-requires g c =
    let e = next_entry c.given-given.result.now c.each.entry-index c.entry-item.result c.each-test.true c.entry-item.is in
    extending_inside g.Q.Exact.value _ _ _ _ _ _ _ e c.each.invariant

pub each-preserved : goal.each-preserved
each-preserved g c =
    let e = next_entry c.given-given.result.now c.each.entry-index c.entry-item.result c.each-test.true c.entry-item.is in
    extending_next g.Q.Exact.value _ _ _ _ _ _ _ _ _ _ e c.each.invariant c.fluent.ensures c.in-Some.ensures c.wider-greatest.ensures.first c.wider-greatest.ensures.second

pub returns : goal.returns
returns g c = extending_end g.Q.Exact.value _ _ _ _ (drop_all _ _ c.each-test.false) c.each.invariant
