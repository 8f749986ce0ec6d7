use Rattle.std.proofs.Common.{◌≡◌, ◌<◌, List, ◌++◌, refl, sym, ap, ap₂, subst, ◌∙◌}
use Rattle.std.proofs.lemmas.List.{map-append}
use Rattle.plus_state.specs.declared.term.EventId.{EventId}
use Rattle.std.specs.Prelude.{All}
use Rattle.plus_timeline.specs.declared.next.Next.TheVariants.{Round}
use Rattle.plus_timeline.specs.Timeline.{TimelineView, event_numbers}
use Rattle.plus_timeline.proofs.Keeping.{keeps_step, fired_inside, fired_in_set, no_run, round_is_none}
use Rattle.plus_timeline.proofs.Views.{round_view}
use Rattle.plus_timeline.proofs.timeline.Timeline.put_round.Goals as goal

-- the events that have fired, in order
all_fired : (old mid new slice es : List EventId) → mid ≡ old → slice ≡ es → new ≡ mid ++ slice → event_numbers new ≡ event_numbers old ++ event_numbers es
all_fired old mid new slice es a b e = ap event_numbers (e ∙ ap₂ (λ (x y : List EventId). x ++ y) a b) ∙ map-append (λ (e : EventId). e.0) old es

pub invariant_of-self-2 : goal.invariant_of-self-2
invariant_of-self-2 g c =
    let h = c.self.invariant in
    let f = all_fired _ _ _ _ _ c.in_ok-reserve.ensures.items c.deref.ensures.value c.in_ok-extend_from_slice.ensures.items in
    keeps_step c.self.inside.states c.step_with.new.self c.self.inside.cascade c.add.new.self (event_numbers c.self.inside.fired.items) (event_numbers c.extend_from_slice.new.self.items) _ _ _ _ _ h
    (fired_in_set c.add.new.self _ _ (f ∙ ap (λ (es : List EventId). event_numbers c.self.inside.fired.items ++ event_numbers es) (sym c.deref-2.ensures.value)) (c.add.ensures.grows _ h.set_is))
    (fired_inside c.self.inside.cascade c.add.new.self _ _ _ c.add.ensures.size f h.inside (subst (λ (v : TimelineView). All (λ e. e < v.event_count) (event_numbers c.args.round.now.events.items)) (sym c.self.view_is) c.requires.events))
    h.within (λ r. no_run _ Round _ _ refl (round_is_none Round refl) r) c.args.round.now.changes c.in_ok-step_with.ensures.ok

pub returns-clause-ok : goal.returns-clause-ok
returns-clause-ok g c =
    let f = all_fired _ _ _ _ _ c.in_ok-reserve.ensures.items c.deref.ensures.value c.in_ok-extend_from_slice.ensures.items in
    rw c.swap.ensures.x_after (round_view c.self.view_is (record { atoms = refl; fluents = refl }) c.step_with.new.self _ c.add.ensures.size c.args.round.now.changes c.in_ok-step_with.ensures.ok _ (event_numbers c.args.round.now.events.items) f)
