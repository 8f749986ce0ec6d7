use Rattle.plus_model.proofs.Reading.{next_is_read}
use Rattle.plus_model.proofs.laws.next_is_read.Goals as goal

pub returns : goal.returns
returns c = next_is_read
