use Rattle.std.proofs.Common.{refl}
use Rattle.plus_never.specs.Adds.{some_adds, event_adds}
use Rattle.plus_state.specs.View.{event_of}
use Rattle.plus_cut.proofs.MarkLemmas.{marking_start, marking_next, marking_end}
use Rattle.plus_cut.proofs.marks.mark_events.Goals as goal

pub events-init : goal.events-init
events-init g c = marking_start _ _

pub events-preserved : goal.events-preserved
events-preserved g c =
    marking_next (event_of g.Q.Exact.value) (λ a b. some_adds a b.effects) event_adds (λ a b bs. refl) c.args.events.now _ _ c.events.event-index _ c.event-item.result c.events-test.true c.event-item.is
    c.events.invariant (rw c.deref.ensures.value at c.mark_effects.ensures)

pub returns : goal.returns
returns g c =
    marking_end (event_of g.Q.Exact.value) (λ a b. some_adds a b.effects) event_adds (λ a b bs. refl) c.args.events.now _ _ c.events.event-index (λ a. refl) c.events-test.false c.events.invariant
