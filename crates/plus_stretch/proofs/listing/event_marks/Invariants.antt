use Rattle.std.proofs.Common.{length, drop}
use Rattle.plus_model.specs.Terms.{Event}
use Rattle.plus_state.specs.View.{problem_of}
use Rattle.plus_state.specs.Fits.{EventFits}
use Rattle.plus_state.specs.Looked.{events_looked}
use Rattle.plus_settle.proofs.StillLemmas.Listed.{Walked}
use Rattle.plus_stretch.specs.Tests.{event}
use Rattle.plus_stretch.specs.Marked.{marks_of}
use Rattle.plus_stretch.proofs.Marking.{Marking}
use Rattle.plus_stretch.proofs.listing.event_marks.Given as goal

abbrev pub invariant-each : goal.invariant-each
invariant-each g l =
    Walked (Marking g.Q.Exact.fits (EventFits (length l.state.atoms) (length l.state.fluents)) event (λ (x : Event). x.condition) l.state l.rates (marks_of g.Q.Exact.value l.initial.into.items) (problem_of g.Q.Exact.value l.ground).events (marks_of g.Q.Exact.value l.into.items)) (length (problem_of g.Q.Exact.value l.ground).events) (drop l.place (events_looked l.events)) (events_looked l.events)
