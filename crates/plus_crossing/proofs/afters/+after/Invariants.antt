use Rattle.std.proofs.Common.{true, false, map, drop}
use Rattle.plus_state.specs.View.{condition_of}
use Rattle.plus_crossing.specs.Conds.{sides_asks}
use Rattle.plus_crossing.proofs.Walking.{Walking, Truths}
use Rattle.plus_crossing.proofs.afters.+after.Given as goal

abbrev pub invariant-truth_after-all : goal.invariant-truth_after-all
invariant-truth_after-all g l = record {
  walking : Walking (sides_asks l.state l.rates) l.state g.Q.Exact.fits true l.before l.number (map (condition_of g.Q.Exact.value) (drop l.member-index l.member-items)) (map (condition_of g.Q.Exact.value) l.member-items);
  truths : Truths l.rates true l.truth (map (condition_of g.Q.Exact.value) (drop l.member-index l.member-items)) (map (condition_of g.Q.Exact.value) l.member-items) l.state;
}

abbrev pub invariant-truth_after-any : goal.invariant-truth_after-any
invariant-truth_after-any g l = record {
  walking : Walking (sides_asks l.state l.rates) l.state g.Q.Exact.fits false l.before l.number (map (condition_of g.Q.Exact.value) (drop l.member-index l.member-items)) (map (condition_of g.Q.Exact.value) l.member-items);
  truths : Truths l.rates false l.truth (map (condition_of g.Q.Exact.value) (drop l.member-index l.member-items)) (map (condition_of g.Q.Exact.value) l.member-items) l.state;
}
