use Rattle.std.proofs.Common.{length, drop}
use Rattle.plus_state.specs.View.{problem_of}
use Rattle.plus_state.specs.Looked.{processes_looked}
use Rattle.plus_settle.specs.Members.{process_numbers}
use Rattle.plus_settle.proofs.StillLemmas.Listed.{Walked}
use Rattle.plus_settle.proofs.AmongLemmas.{Agreeing}
use Rattle.plus_settle.proofs.confirms.first_other.Given as goal

abbrev pub invariant-each : goal.invariant-each
invariant-each g l =
    Walked (Agreeing g.Q.Exact.fits (problem_of g.Q.Exact.value l.ground) (process_numbers l.members) l.state l.rates) (length (problem_of g.Q.Exact.value l.ground).processes) (drop l.place (processes_looked l.looked)) (processes_looked l.looked)
