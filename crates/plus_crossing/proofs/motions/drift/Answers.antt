use Rattle.std.proofs.Common.{sym, ◌∙◌}
use Rattle.plus_crossing.proofs.Drifting.{drift_gain}
use Rattle.plus_crossing.proofs.motions.drift.Goals as goal

pub set_motion-requires-clause-gain : goal.set_motion-requires-clause-gain
set_motion-requires-clause-gain g c = (drift_gain g.Q.Exact.fits _ _ _ (sym c.is_zero.ensures ∙ c.if-is_zero.false) (rw c.in-Some.is at c.requires.fit)).0

pub set_motion-requires-clause-sum : goal.set_motion-requires-clause-sum
set_motion-requires-clause-sum g c = (drift_gain g.Q.Exact.fits _ _ _ (sym c.is_zero.ensures ∙ c.if-is_zero.false) (rw c.in-Some.is at c.requires.fit)).1
