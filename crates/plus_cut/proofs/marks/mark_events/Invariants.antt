use Rattle.std.proofs.Common.{map, drop}
use Rattle.plus_state.specs.View.{event_of}
use Rattle.plus_never.specs.Adds.{event_adds}
use Rattle.plus_cut.proofs.MarkLemmas.{Marking}
use Rattle.plus_cut.proofs.marks.mark_events.Given as goal

abbrev pub invariant-events : goal.invariant-events
invariant-events g l =
    Marking l.initial.marks l.marks (λ a. event_adds a (map (event_of g.Q.Exact.value) l.events))
    (λ a. event_adds a (map (event_of g.Q.Exact.value) (drop l.event-index l.events)))
