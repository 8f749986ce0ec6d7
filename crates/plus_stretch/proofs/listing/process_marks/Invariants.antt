use Rattle.std.proofs.Common.{length, drop}
use Rattle.plus_model.specs.Terms.{Process}
use Rattle.plus_state.specs.View.{problem_of}
use Rattle.plus_state.specs.Fits.{ProcessFits}
use Rattle.plus_state.specs.Looked.{processes_looked}
use Rattle.plus_settle.proofs.StillLemmas.Listed.{Walked}
use Rattle.plus_stretch.specs.Tests.{process}
use Rattle.plus_stretch.specs.Marked.{marks_of}
use Rattle.plus_stretch.proofs.Marking.{Marking}
use Rattle.plus_stretch.proofs.listing.process_marks.Given as goal

abbrev pub invariant-each : goal.invariant-each
invariant-each g l =
    Walked (Marking g.Q.Exact.fits (ProcessFits (length l.state.atoms) (length l.state.fluents)) process (λ (x : Process). x.condition) l.state l.rates (marks_of g.Q.Exact.value l.initial.into.items) (problem_of g.Q.Exact.value l.ground).processes (marks_of g.Q.Exact.value l.into.items)) (length (problem_of g.Q.Exact.value l.ground).processes) (drop l.place (processes_looked l.processes)) (processes_looked l.processes)
