-- What is found among the members that are left is what is found of the whole.
use Rattle.std.proofs.Common.{true, map, drop, length}
use Rattle.plus_state.specs.View.{condition_of}
use Rattle.plus_state.specs.Tests.{joined}
use Rattle.plus_replay.proofs.Members.{Left}
use Rattle.plus_replay.proofs.unmet.member.+first_failing.Given as goal

abbrev pub invariant-members : goal.invariant-members
invariant-members g l =
    Left g.Q.Exact.fits (length l.state.atoms) (length l.state.fluents) l.state (condition_of g.Q.Exact.value l.cond)
    (joined true (map (condition_of g.Q.Exact.value) (drop l.member-index l.member-items)))
