use Rattle.plus_timeline.proofs.Stays.{line_behind}
use Rattle.plus_timeline.proofs.laws.line_behind.Goals as goal

pub returns : goal.returns
returns c = line_behind
