use Rattle.std.proofs.Common.{◌≡◌, ◌≤◌, length, map}
use Rattle.plus_state.specs.View.{problem_of}
use Rattle.plus_trim.specs.Acts.{act_of, chosen}
use Rattle.plus_trim.specs.Work.{IsWork}
use Rattle.plus_trim.proofs.Round.{Told}
use Rattle.plus_trim.proofs.tries.Work.round.Given as goal

abbrev pub invariant-each : goal.invariant-each
invariant-each g l = record {
  work : IsWork g.Q.Exact.fits (problem_of g.Q.Exact.value l.ground) l.bounds.happenings (map (act_of g.Q.Exact.value) l.acts) (g.Q.Exact.value l.bounds.end) l.self.places.items l.self.marks.items;
  same : l.self.places.items ≡ l.initial.self.places.items;
  told : Told g.Q.Exact.fits (problem_of g.Q.Exact.value l.ground) l.bounds.happenings (chosen (map (act_of g.Q.Exact.value) l.acts) l.self.places.items) (g.Q.Exact.value l.bounds.end) l.index l.beyond;
  marks : l.index ≤ length l.self.marks.items;
}
