use Rattle.std.specs.Prelude.{Option}
use Rattle.plus_fraction.specs.Fraction.{Fraction}
use Rattle.plus_timeline.specs.declared.next.Next.{Next}
use Rattle.std.proofs.Common.{ap, refl, ◌∙◌, arith}
use Rattle.plus_timeline.specs.Timeline.{TimelineView, event_numbers, process_numbers, running_by}
use Rattle.plus_timeline.proofs.Keeping.{keeps_step, fired_in_set, none_inside}
use Rattle.plus_timeline.proofs.Views.{act_view}
use Rattle.plus_timeline.proofs.timeline.Timeline.put_changes.Goals as goal

pub invariant_of-self-2 : goal.invariant_of-self-2
invariant_of-self-2 g c =
    let h = c.self.invariant in
    let f = ap event_numbers c.clear-2.ensures.items in
    keeps_step c.self.inside.states c.step.new.self c.self.inside.cascade c.clear.new.self _ _ _ _ _ _ _ h
    (fired_in_set c.clear.new.self _ _ f (c.clear.ensures.empty (fired_in_set _ _ _ (ap event_numbers c.deref.ensures.value) h.set_is))) (none_inside _ _ f) h.within h.room c.args.changes c.in_ok-step.ensures.ok

pub returns-clause-ok : goal.returns-clause-ok
returns-clause-ok g c =
    let f = ap event_numbers c.clear-2.ensures.items in
    act_view c.self.view_is (record { atoms = refl; fluents = refl }) c.step.new.self _ c.clear.ensures.size c.args.changes c.in_ok-step.ensures.ok _ _ f (omega arith) (ap (λ (o : Option (Next Fraction)). running_by o (process_numbers c.self.inside.running.members.items)) (ap (λ (v : TimelineView). v.answer) c.self.view_is ∙ c.requires.there))
