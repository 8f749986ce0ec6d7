use Rattle.plus_stretch.proofs.CrossingLemmas.{known_to_fit}
use Rattle.plus_stretch.proofs.crossing.at_root.Goals as goal

pub at_root_in_motion-requires-clause-fit : goal.at_root_in_motion-requires-clause-fit
at_root_in_motion-requires-clause-fit g c = known_to_fit g.Q.Exact.fits _ _ _ _ c.requires.extent (c.drifts.ensures c.if-drifts.true)
