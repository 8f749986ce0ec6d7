use Rattle.std.proofs.Common.{◌≡◌, true, false, map, drop}
use Rattle.plus_state.specs.View.{condition_of}
use Rattle.plus_state.specs.Tests.{joined}
use Rattle.plus_possible.specs.Possible.{may_by, may_hold}
use Rattle.plus_possible.proofs.possible.+may_hold.Given as goal

abbrev pub invariant-all : goal.invariant-all
invariant-all g l =
    may_hold (may_by l.marks l.state) (joined true (map (condition_of g.Q.Exact.value) (drop l.member-index l.member-items)))
    ≡ may_hold (may_by l.marks l.state) (joined true (map (condition_of g.Q.Exact.value) l.member-items))

abbrev pub invariant-any : goal.invariant-any
invariant-any g l =
    may_hold (may_by l.marks l.state) (joined false (map (condition_of g.Q.Exact.value) (drop l.member-index l.member-items)))
    ≡ may_hold (may_by l.marks l.state) (joined false (map (condition_of g.Q.Exact.value) l.member-items))
