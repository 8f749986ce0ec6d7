use Rattle.std.proofs.Common.{◌≡◌, ◌+◌, map, take, drop}
use Rattle.plus_state.specs.View.{problem_of}
use Rattle.plus_indexed.specs.Knows.{Knows}
use Rattle.plus_trim.specs.Acts.{act_of}
use Rattle.plus_trim.proofs.Acted.{IsAt}
use Rattle.plus_trim.proofs.playing.play_on.Given as goal

abbrev pub invariant-each : goal.invariant-each
invariant-each g l = record {
  at : IsAt g.Q.Exact.fits (problem_of g.Q.Exact.value l.ground) (map (act_of g.Q.Exact.value) l.acts) (g.Q.Exact.value l.end)
      (take l.place-index l.rest) (drop l.place-index l.rest) l.initial.line.line l.line.line;
  knows : Knows g.Q.Exact.fits (problem_of g.Q.Exact.value l.ground) l.line;
  acted : l.line.line.now.acted ≡ l.number;
  counted : l.number ≡ l.done + l.place-index;
}
