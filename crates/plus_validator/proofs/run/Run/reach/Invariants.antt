use Rattle.std.proofs.Common.{◌≡◌, ◌≤◌}
use Rattle.plus_number.specs.Frac.{fraction_of}
use Rattle.plus_state.specs.View.{problem_of, labels_of}
use Rattle.plus_validator.specs.Account.{progress}
use Rattle.plus_validator.specs.Handing.{HandsOn}
use Rattle.plus_timeline.specs.StepsLeft.{steps_left}
use Rattle.plus_validator.proofs.Runs.{Along}
use Rattle.plus_validator.proofs.run.Run.reach.Given as goal

abbrev pub invariant-steps : goal.invariant-steps
invariant-steps g l = record {
  goes : HandsOn (progress g.T.Teller.told) (progress g.T.Teller.told) (Along (problem_of fraction_of l.ground) (g.T.Teller.telling (labels_of l.ground) (problem_of fraction_of l.ground)) (fraction_of l.until)) l.initial.self l.self
      (g.O.Sink.taken l.initial.out) (g.O.Sink.taken l.out);
  keeps : g.T.Teller.kept l.self.teller ≡ g.T.Teller.kept l.initial.self.teller;
  no_fall : g.O.Sink.faults l.initial.out ≤ g.O.Sink.faults l.out;
}

abbrev pub decreases-steps : goal.decreases-steps
decreases-steps g l = steps_left l.self.timeline.line
