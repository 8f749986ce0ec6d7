use Rattle.plus_timeline.proofs.Stays.{advance_first}
use Rattle.plus_timeline.proofs.laws.advance_first.Goals as goal

pub returns : goal.returns
returns c = advance_first
