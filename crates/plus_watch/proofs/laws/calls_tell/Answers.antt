use Rattle.plus_watch.proofs.Calls.{calls_tell}
use Rattle.plus_watch.proofs.laws.calls_tell.Goals as goal

pub returns : goal.returns
returns c = calls_tell
