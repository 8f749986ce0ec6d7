use Rattle.std.proofs.Common.{true, map, length, drop}
use Rattle.plus_state.specs.View.{condition_of}
use Rattle.plus_state.specs.Tests.{joined}
use Rattle.plus_state.specs.Fits.{Fits}
use Rattle.plus_planner.proofs.goals.count.Given as goal

-- those still to come fit
abbrev pub invariant-members : goal.invariant-members
invariant-members g l =
    Fits (length l.state.atoms) (length l.state.fluents) (joined true (map (condition_of g.Q.Exact.value) (drop l.member-index l.members)))
