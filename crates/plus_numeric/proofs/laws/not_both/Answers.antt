use Rattle.plus_numeric.proofs.Excluding.{not_both}
use Rattle.plus_numeric.proofs.laws.not_both.Goals as goal

pub returns : goal.returns
returns c = not_both
