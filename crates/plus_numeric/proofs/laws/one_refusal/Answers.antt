use Rattle.plus_numeric.proofs.Excluding.{one_refusal}
use Rattle.plus_numeric.proofs.laws.one_refusal.Goals as goal

pub returns : goal.returns
returns c = one_refusal
