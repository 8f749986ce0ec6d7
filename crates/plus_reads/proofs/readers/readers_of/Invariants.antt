use Rattle.std.proofs.Common.{length}
use Rattle.plus_state.specs.View.{problem_of}
use Rattle.plus_reads.proofs.Reading.{Lists}
use Rattle.plus_reads.proofs.readers.readers_of.Given as goal

abbrev pub invariant-each : goal.invariant-each
invariant-each g l =
    Lists l.number (g.I.Conditional.conditions (problem_of g.Q.Exact.value l.ground)) l.atoms l.fluents (length l.ground.atoms.items) (length l.ground.fluents.items)
