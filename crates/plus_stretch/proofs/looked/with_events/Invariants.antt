use Rattle.std.proofs.Common.{◌++◌, drop}
use Rattle.plus_state.specs.Numbers.{event_numbers}
use Rattle.plus_stretch.specs.Marked.{marks_of, owning_events}
use Rattle.plus_stretch.proofs.Marks.{Appending}
use Rattle.plus_stretch.proofs.looked.with_events.Given as goal

abbrev pub invariant-events : goal.invariant-events
invariant-events g l = Appending l.numbers.items (event_numbers (drop l.event-index l.events)) (event_numbers l.events)

abbrev pub invariant-marks : goal.invariant-marks
invariant-marks g l = Appending l.numbers.items (owning_events (marks_of g.Q.Exact.value (drop l.mark-index l.marks))) (event_numbers l.events ++ owning_events (marks_of g.Q.Exact.value l.marks))
