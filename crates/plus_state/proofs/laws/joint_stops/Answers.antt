use Rattle.plus_state.proofs.JointLemmas.{joint_stops}
use Rattle.plus_state.proofs.laws.joint_stops.Goals as goal

pub returns : goal.returns
returns g c = joint_stops g.Q.Exact.fits
