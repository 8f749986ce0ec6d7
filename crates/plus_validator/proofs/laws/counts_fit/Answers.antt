use Rattle.plus_validator.proofs.Counts as counts
use Rattle.plus_validator.proofs.laws.counts_fit.Goals as goal

pub returns : goal.returns
returns c = counts.counts_fit
