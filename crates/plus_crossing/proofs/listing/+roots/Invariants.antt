use Rattle.std.proofs.Common.{true, false, map, drop}
use Rattle.plus_state.specs.View.{condition_of}
use Rattle.plus_crossing.specs.Next.{root_sides}
use Rattle.plus_crossing.proofs.Walking.{Walking}
use Rattle.plus_crossing.proofs.RootLists.{Rooting}
use Rattle.plus_crossing.proofs.listing.+roots.Given as goal

abbrev pub invariant-roots_from-all : goal.invariant-roots_from-all
invariant-roots_from-all g l = record {
  walking : Walking (root_sides l.state l.rates) l.state g.Q.Exact.fits true l.before l.number (map (condition_of g.Q.Exact.value) (drop l.member-index l.member-items)) (map (condition_of g.Q.Exact.value) l.member-items);
  rooting : Rooting l.rates l.state true (map g.Q.Exact.value l.into.items) (map g.Q.Exact.value l.fn.into.items) (map (condition_of g.Q.Exact.value) (drop l.member-index l.member-items)) (map (condition_of g.Q.Exact.value) l.member-items);
}

abbrev pub invariant-roots_from-any : goal.invariant-roots_from-any
invariant-roots_from-any g l = record {
  walking : Walking (root_sides l.state l.rates) l.state g.Q.Exact.fits false l.before l.number (map (condition_of g.Q.Exact.value) (drop l.member-index l.member-items)) (map (condition_of g.Q.Exact.value) l.member-items);
  rooting : Rooting l.rates l.state false (map g.Q.Exact.value l.into.items) (map g.Q.Exact.value l.fn.into.items) (map (condition_of g.Q.Exact.value) (drop l.member-index l.member-items)) (map (condition_of g.Q.Exact.value) l.member-items);
}
