use Rattle.std.proofs.Common.{true, false, length, map, drop}
use Rattle.plus_state.specs.View.{condition_of}
use Rattle.plus_settle.proofs.StillLemmas.Asking.{Asking}
use Rattle.plus_settle.proofs.still.simple.+is_simple.Given as goal

abbrev pub invariant-all : goal.invariant-all
invariant-all g l =
    Asking true l.simple l.rates (length l.rates) (map (condition_of g.Q.Exact.value) (drop l.member-index l.member-items)) (map (condition_of g.Q.Exact.value) l.member-items)

abbrev pub invariant-any : goal.invariant-any
invariant-any g l =
    Asking false l.simple l.rates (length l.rates) (map (condition_of g.Q.Exact.value) (drop l.member-index l.member-items)) (map (condition_of g.Q.Exact.value) l.member-items)
