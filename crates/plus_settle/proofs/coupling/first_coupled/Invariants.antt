use Rattle.std.proofs.Common.{drop}
use Rattle.plus_state.specs.View.{problem_of}
use Rattle.plus_settle.specs.Members.{process_numbers}
use Rattle.plus_settle.proofs.CouplingLemmas.{Pairing}
use Rattle.plus_settle.proofs.coupling.first_coupled.Given as goal

abbrev pub invariant-each : goal.invariant-each
invariant-each g l =
    Pairing (problem_of g.Q.Exact.value l.ground) (process_numbers (drop l.member-index l.members)) (process_numbers l.members) l.rates
