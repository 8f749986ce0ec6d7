use Rattle.std.proofs.Common.{◌≡◌, true, map, drop}
use Rattle.std.specs.Prelude.{IfSome}
use Rattle.plus_state.specs.View.{problem_of}
use Rattle.plus_crossing.specs.Motions.{Extends}
use Rattle.plus_settle.specs.Members.{process_numbers}
use Rattle.plus_stretch.specs.Here.{IsAlong}
use Rattle.plus_stretch.specs.Arrives.{IsQuietAtFirst}
use Rattle.plus_stretch.specs.Marked.{marks_of}
use Rattle.plus_stretch.proofs.WalkLemmas.{Stepping}
use Rattle.plus_stretch.proofs.search.walk.Given as goal

abbrev pub invariant-each : goal.invariant-each
invariant-each g l = record {
  stepping : Stepping g.Q.Exact.fits (problem_of g.Q.Exact.value l.ground) (g.Q.Exact.value l.from) l.state (process_numbers l.running.members.items) l.running.rates (g.Q.Exact.value l.length) (map g.Q.Exact.value l.roots) (map g.Q.Exact.value (drop l.root-index l.roots)) (marks_of g.Q.Exact.value l.marks) (marks_of g.Q.Exact.value l.rest);
  quiet : l.is_first ≡ true → IsQuietAtFirst g.Q.Exact.fits (problem_of g.Q.Exact.value l.ground) (g.Q.Exact.value l.from) l.state (process_numbers l.running.members.items) l.running.rates (map g.Q.Exact.value (drop l.root-index l.roots));
  along : IsAlong l.state l.running.rates l.ahead.state;
  extent : IfSome l.extent (Extends l.state.fluents l.running.rates);
}
