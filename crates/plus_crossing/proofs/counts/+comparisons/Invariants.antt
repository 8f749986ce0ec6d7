use Rattle.std.proofs.Common.{true, false, map, drop}
use Rattle.plus_state.specs.View.{condition_of}
use Rattle.plus_crossing.proofs.Walking.{Counting}
use Rattle.plus_crossing.proofs.counts.+comparisons.Given as goal

abbrev pub invariant-counted-all : goal.invariant-counted-all
invariant-counted-all g l =
    Counting true l.count (map (condition_of g.Q.Exact.value) (drop l.member-index l.member-items)) (map (condition_of g.Q.Exact.value) l.member-items)

abbrev pub invariant-counted-any : goal.invariant-counted-any
invariant-counted-any g l =
    Counting false l.count (map (condition_of g.Q.Exact.value) (drop l.member-index l.member-items)) (map (condition_of g.Q.Exact.value) l.member-items)
