use Rattle.plus_state.proofs.JointLemmas.{joint_passes}
use Rattle.plus_state.proofs.laws.joint_passes.Goals as goal

pub returns : goal.returns
returns g c = joint_passes g.Q.Exact.fits
