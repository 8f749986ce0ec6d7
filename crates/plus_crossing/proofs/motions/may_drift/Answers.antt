use Rattle.std.proofs.Common.{arith}
use Rattle.std.proofs.lemmas.Bool.Decides.{nat_tests}
use Rattle.plus_crossing.proofs.Drifting.{drift_answer}
use Rattle.plus_crossing.proofs.motions.may_drift.Goals as goal

pub returns-in-Some : goal.returns-in-Some
returns-in-Some g c =
    λ h. drift_answer g.Q.Exact.fits g.Q.Exact.room g.met.Q.Exact.moves_fit _ _ _ _ _ c.size.ensures c.in-Some.ensures.1 c.room.ensures (grind (arith, nat_tests, h))
