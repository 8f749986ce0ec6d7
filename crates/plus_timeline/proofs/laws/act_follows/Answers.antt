use Rattle.plus_timeline.proofs.Follows as follows
use Rattle.plus_timeline.proofs.laws.act_follows.Goals as goal

pub returns : goal.returns
returns c = follows.act_follows
