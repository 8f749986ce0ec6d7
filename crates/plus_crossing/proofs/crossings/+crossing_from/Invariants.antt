use Rattle.std.proofs.Common.{true, false, map, drop}
use Rattle.std.specs.Prelude.{option_map}
use Rattle.plus_state.specs.View.{condition_of}
use Rattle.plus_crossing.specs.Next.{root_sides}
use Rattle.plus_crossing.proofs.Walking.{Walking, Nexts}
use Rattle.plus_crossing.proofs.crossings.+crossing_from.Given as goal

abbrev pub invariant-all : goal.invariant-all
invariant-all g l = record {
  walking : Walking (root_sides l.state l.rates) l.state g.Q.Exact.fits true l.before l.number (map (condition_of g.Q.Exact.value) (drop l.member-index l.member-items)) (map (condition_of g.Q.Exact.value) l.member-items);
  nexts : Nexts l.rates l.state true (g.Q.Exact.value l.after) (g.Q.Exact.value l.until) (option_map g.Q.Exact.value l.least) (map (condition_of g.Q.Exact.value) (drop l.member-index l.member-items)) (map (condition_of g.Q.Exact.value) l.member-items);
}

abbrev pub invariant-any : goal.invariant-any
invariant-any g l = record {
  walking : Walking (root_sides l.state l.rates) l.state g.Q.Exact.fits false l.before l.number (map (condition_of g.Q.Exact.value) (drop l.member-index l.member-items)) (map (condition_of g.Q.Exact.value) l.member-items);
  nexts : Nexts l.rates l.state false (g.Q.Exact.value l.after) (g.Q.Exact.value l.until) (option_map g.Q.Exact.value l.least) (map (condition_of g.Q.Exact.value) (drop l.member-index l.member-items)) (map (condition_of g.Q.Exact.value) l.member-items);
}
