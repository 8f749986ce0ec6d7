use Rattle.plus_stretch.proofs.Rising.{rising_are}
use Rattle.plus_stretch.proofs.laws.rising_are.Goals as goal

pub returns : goal.returns
returns c = rising_are
