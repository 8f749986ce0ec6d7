use Rattle.plus_timeline.proofs.Follows as follows
use Rattle.plus_timeline.proofs.laws.act_breaks.Goals as goal

pub returns : goal.returns
returns g c = follows.act_breaks g.Q.Exact.value
