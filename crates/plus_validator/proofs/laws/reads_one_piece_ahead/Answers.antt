use Rattle.plus_validator.proofs.KeepingUp as keeping
use Rattle.plus_validator.proofs.laws.reads_one_piece_ahead.Goals as goal

pub returns : goal.returns
returns c = keeping.reads_one_piece_ahead
