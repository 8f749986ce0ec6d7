use Rattle.plus_stretch.proofs.Left.{search_steps}
use Rattle.plus_stretch.proofs.laws.search_steps.Goals as goal

pub returns : goal.returns
returns c = search_steps
