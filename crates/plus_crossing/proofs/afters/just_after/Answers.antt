use Rattle.plus_crossing.proofs.TruthAfter.{tells}
use Rattle.plus_crossing.proofs.afters.just_after.Goals as goal

pub returns : goal.returns
returns g c = (c.in_ok-truth.ensures.0, tells _ _ _ _ c.in_ok-truth.ensures.1)
