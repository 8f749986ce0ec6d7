use Rattle.plus_lift.proofs.LiftLemmas.{LiftSoFar}
use Rattle.plus_lift.proofs.lifting.lift.Given as goal

abbrev pub invariant-steps : goal.invariant-steps
invariant-steps l = LiftSoFar l.interval l.steps l.step-index l.count l.acts.items
