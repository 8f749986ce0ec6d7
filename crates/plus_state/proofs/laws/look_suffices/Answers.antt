use Rattle.plus_state.proofs.LookLemmas.{look_suffices}
use Rattle.plus_state.proofs.laws.look_suffices.Goals as goal

pub returns : goal.returns
returns g c = look_suffices g.Q.Exact.fits
