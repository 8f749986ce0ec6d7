use Rattle.plus_stretch.proofs.Roots.{roots_are}
use Rattle.plus_stretch.proofs.laws.roots_are.Goals as goal

pub returns : goal.returns
returns c = roots_are
