use Rattle.std.proofs.Common.{◌≡◌}
use Rattle.plus_state.specs.View.{problem_of}
use Rattle.plus_indexed.specs.Knows.{Knows}
use Rattle.plus_timeline.specs.StepsLeft.{steps_left}
use Rattle.plus_planner.specs.Kin.{IsKin}
use Rattle.plus_planner.proofs.Carries.{Along}
use Rattle.plus_planner.proofs.carrying.carry.Given as goal

abbrev pub invariant-steps : goal.invariant-steps
invariant-steps g l = record {
  along : Along g.Q.Exact.fits (problem_of g.Q.Exact.value l.ground) (g.Q.Exact.value l.until) l.initial.timeline l.timeline;
  kin : IsKin (problem_of g.Q.Exact.value l.ground) l.timeline;
  knows : Knows g.Q.Exact.fits (problem_of g.Q.Exact.value l.ground) (record { line = l.timeline; kept = l.stepper });
  index : l.stepper.index ≡ l.initial.stepper.index;
}

abbrev pub decreases-steps : goal.decreases-steps
decreases-steps g l = steps_left l.timeline
