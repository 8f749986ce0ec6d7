use Rattle.plus_state.specs.View.{problem_of}
use Rattle.plus_stepped.proofs.Cascades.{Cascading}
use Rattle.plus_stepped.proofs.Unfired.{unfired}
use Rattle.plus_stepped.proofs.rounds.cascade.Given as goal

abbrev pub invariant-rounds : goal.invariant-rounds
invariant-rounds g l = Cascading g.Q.Exact.fits (problem_of g.Q.Exact.value l.ground) l.fn.state l.now l.fired

abbrev pub decreases-rounds : goal.decreases-rounds
decreases-rounds g l = unfired l.fired
