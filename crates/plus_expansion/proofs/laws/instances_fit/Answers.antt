use Rattle.plus_expansion.proofs.Fitting.{instances_fit}
use Rattle.plus_expansion.proofs.laws.instances_fit.Goals as goal

pub returns : goal.returns
returns c = instances_fit
