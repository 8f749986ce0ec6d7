use Rattle.std.proofs.Common.{◌∷◌, [], refl}
use Rattle.plus_state.proofs.TestsLemmas.{next_member, no_member}
use Rattle.plus_stretch.specs.Tests.{whose}
use Rattle.plus_stretch.specs.Marked.{mark_of, event_of}
use Rattle.plus_cascade.proofs.FiredLemmas.{next_number as next_event, no_number as no_event}
use Rattle.plus_stretch.proofs.Marks.{appending_start, appending_next, appending_end}
use Rattle.plus_stretch.proofs.looked.with_events.Goals as goal

pub events-init : goal.events-init
events-init g c = appending_start _ _ _ _ c.clear.ensures.items refl

pub events-preserved : goal.events-preserved
events-preserved g c =
    let e = next_event c.args.events.now c.events.event-index _ c.events-test.true in
    appending_next _ (_ ∷ []) _ _ _ (rw e at c.events.invariant) c.in_ok-push.ensures.items

pub marks-init : goal.marks-init
marks-init g c =
    let e = no_event c.args.events.now c.events.event-index c.events-test.false in
    appending_start _ _ _ _ (appending_end _ _ (rw e at c.events.invariant)) refl

pub marks-preserved : goal.marks-preserved
marks-preserved g c =
    let e = next_member (mark_of g.Q.Exact.value) c.args.marks.now c.marks.mark-index c.mark-item.result c.marks-test.true c.mark-item.is in
    appending_next _ (event_of (whose c.mark-item.result.owner)) _ _ _ (rw e at c.marks.invariant) c.in_ok-note_event.ensures

pub returns : goal.returns
returns g c =
    let e = no_member (mark_of g.Q.Exact.value) c.args.marks.now c.marks.mark-index c.marks-test.false in
    appending_end _ _ (rw e at c.marks.invariant)
