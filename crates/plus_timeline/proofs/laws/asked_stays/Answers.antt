use Rattle.plus_timeline.proofs.Stays.{asked_stays}
use Rattle.plus_timeline.proofs.laws.asked_stays.Goals as goal

pub returns : goal.returns
returns c = asked_stays
