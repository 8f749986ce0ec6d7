use Rattle.plus_timeline.proofs.Follows as follows
use Rattle.plus_timeline.proofs.laws.finish_breaks.Goals as goal

pub returns : goal.returns
returns c = follows.finish_breaks
