use Rattle.plus_timeline.proofs.Follows as follows
use Rattle.plus_timeline.proofs.laws.advance_follows.Goals as goal

pub returns : goal.returns
returns g c = follows.advance_follows g.Q.Exact.value
