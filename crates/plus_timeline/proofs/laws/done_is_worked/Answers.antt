use Rattle.plus_timeline.proofs.Follows as follows
use Rattle.plus_timeline.proofs.laws.done_is_worked.Goals as goal

pub returns : goal.returns
returns c = follows.done_is_worked
