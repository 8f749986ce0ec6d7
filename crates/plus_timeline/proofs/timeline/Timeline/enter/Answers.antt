use Rattle.std.proofs.Common.{refl, ap, arith}
use Rattle.plus_state.specs.View.{problem_of}
use Rattle.plus_timeline.specs.declared.next.Next.TheVariants.{Entry}
use Rattle.plus_timeline.specs.Timeline.{TimelineView, event_numbers}
use Rattle.plus_timeline.proofs.Keeping.{keeps_entry, fired_in_set, none_inside, no_run, entry_is_none}
use Rattle.plus_timeline.proofs.LiteralLemmas.{literal_is}
use Rattle.plus_timeline.proofs.Views.{entry_view}
use Rattle.plus_timeline.proofs.timeline.Timeline.enter.Goals as goal

pub invariant_of-self-2 : goal.invariant_of-self-2
invariant_of-self-2 g c =
    let h = c.self.invariant in
    let f = ap event_numbers c.clear-2.ensures.items in
    let n = ap (λ (v : TimelineView). v.entries) c.self.view_is in
    let m = ap (λ (v : TimelineView). v.most) c.self.view_is in
    let room = c.requires.room in
    keeps_entry c.self.inside.states c.enter.new.self c.self.inside.cascade c.clear.new.self _ _ _ _ _ _ _ h
    (fired_in_set c.clear.new.self _ _ f (c.clear.ensures.empty (fired_in_set _ _ _ (ap event_numbers c.deref-2.ensures.value) h.set_is))) (none_inside _ _ f)
    (omega (arith, n, m, room)) (λ r. no_run _ (Entry (g.Q.Exact.value c.deref.result.now.arrival.time)) _ _ refl (entry_is_none _ (g.Q.Exact.value c.deref.result.now.arrival.time) refl) r)
    c.args.ahead.value.arrival.changes c.in_ok-literals.literals c.in_ok-enter.ensures.ok

pub returns-clause-ok : goal.returns-clause-ok
returns-clause-ok g c =
    let P = problem_of g.Q.Exact.value c.args.ground.now in
    let t = g.Q.Exact.value c.args.ahead.value.arrival.time in
    let f = ap event_numbers c.clear-2.ensures.items in
    let l = rw c.deref.ensures at c.in_ok-literals.ensures in
    rw c.deref.ensures (entry_view c.self.view_is (record { atoms = refl; fluents = refl }) c.enter.new.self _ c.clear.ensures.size P c.args.ahead.value.arrival.changes c.in_ok-literals.literals t c.are_there-literal.result _ _
    c.in_ok-enter.ensures.ok l (literal_is P t c.in_ok-literals.literals c.are_there-literal.result l c.are_there-literal.ensures) f (omega arith))
