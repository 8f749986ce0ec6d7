use Rattle.std.proofs.Common.{refl}
use Rattle.plus_state.specs.View.{effect_of}
use Rattle.plus_state.proofs.TestsLemmas.{next_member, no_member}
use Rattle.plus_state.proofs.PlainLemmas.{noting_start, noting_next, noting_rises, noting_end, noting_due}
use Rattle.plus_state.proofs.plain.plain_changes.Goals as goal

pub each-init : goal.each-init
each-init g c = noting_start _ _ _ _ c.requires c.clear.ensures

pub note_due-requires : goal.note_due-requires
note_due-requires g c =
    let e = next_member (effect_of g.Q.Exact.value) c.args.effects.now c.each.effect-index c.effect-item.result c.each-test.true c.effect-item.is in
    noting_due _ _ _ _ _ _ _ (rw e at c.each.invariant) c.in-Ok.ensures.1

pub each-preserved : goal.each-preserved
each-preserved g c =
    let e = next_member (effect_of g.Q.Exact.value) c.args.effects.now c.each.effect-index c.effect-item.result c.each-test.true c.effect-item.is in
    noting_next g.Q.Exact.value _ _ _ _ _ _ _ c.in-Ok.write (rw e at c.each.invariant) c.in-Ok.ensures.0 c.in-Ok.ensures.1 (c.if-not-note_due.ensures refl)

pub returns-clause-rises : goal.returns-clause-rises
returns-clause-rises g c =
    let h = rw (no_member (effect_of g.Q.Exact.value) c.args.effects.now c.each.effect-index c.each-test.false) at c.each.invariant in
    λ t. noting_rises _ _ _ _ h

pub returns-clause-passes : goal.returns-clause-passes
returns-clause-passes g c =
    let h = rw (no_member (effect_of g.Q.Exact.value) c.args.effects.now c.each.effect-index c.each-test.false) at c.each.invariant in
    λ t. (noting_end _ _ _ _ h g.Q.Exact.value).0

pub returns-clause-does : goal.returns-clause-does
returns-clause-does g c =
    let h = rw (no_member (effect_of g.Q.Exact.value) c.args.effects.now c.each.effect-index c.each-test.false) at c.each.invariant in
    λ t. (noting_end _ _ _ _ h g.Q.Exact.value).1
