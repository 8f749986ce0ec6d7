use Rattle.plus_crossing.proofs.Steady.{pieces_tell}
use Rattle.plus_crossing.proofs.laws.pieces_tell.Goals as goal

pub returns : goal.returns
returns c = pieces_tell
