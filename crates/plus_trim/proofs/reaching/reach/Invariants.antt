use Rattle.plus_state.specs.View.{problem_of}
use Rattle.plus_timeline.specs.StepsLeft.{steps_left}
use Rattle.plus_indexed.specs.Knows.{Knows}
use Rattle.plus_trim.proofs.Ways.{OnTheWay}
use Rattle.plus_trim.proofs.reaching.reach.Given as goal

abbrev pub invariant-steps : goal.invariant-steps
invariant-steps g l = record {
  way : OnTheWay g.Q.Exact.fits (problem_of g.Q.Exact.value l.ground) (g.Q.Exact.value l.until) l.initial.line.line l.line.line;
  knows : Knows g.Q.Exact.fits (problem_of g.Q.Exact.value l.ground) l.line;
}

abbrev pub decreases-steps : goal.decreases-steps
decreases-steps g l = steps_left l.line.line
