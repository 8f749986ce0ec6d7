use Rattle.std.proofs.Common.{map, drop}
use Rattle.plus_state.specs.View.{problem_of}
use Rattle.plus_state.specs.Stops.{due_of}
use Rattle.plus_cascade.specs.Fired.{event_numbers}
use Rattle.plus_cascade.proofs.FiringLemmas.{Joining}
use Rattle.plus_cascade.proofs.firing.changed_together.Given as goal

abbrev pub invariant-each : goal.invariant-each
invariant-each g l =
    Joining g.Q.Exact.fits (problem_of g.Q.Exact.value l.ground) (map (due_of g.Q.Exact.value) l.due.items) (event_numbers (drop l.event-index l.events)) (event_numbers l.events) l.state
