use Rattle.plus_expansion.proofs.Fitting.{expansion_fits}
use Rattle.plus_expansion.proofs.laws.expansion_fits.Goals as goal

pub returns : goal.returns
returns c = expansion_fits
