use Rattle.std.proofs.Common.{length, map}
use Rattle.plus_state.specs.View.{problem_of}
use Rattle.plus_trim.specs.Acts.{act_of}
use Rattle.plus_trim.specs.Work.{IsWork}
use Rattle.plus_trim.proofs.trimming.rounds.Given as goal

abbrev pub invariant-anew : goal.invariant-anew
invariant-anew g l = IsWork g.Q.Exact.fits (problem_of g.Q.Exact.value l.ground) l.bounds.happenings (map (act_of g.Q.Exact.value) l.acts) (g.Q.Exact.value l.bounds.end) l.work.places.items l.work.marks.items

abbrev pub decreases-anew : goal.decreases-anew
decreases-anew g l = length l.work.places.items
