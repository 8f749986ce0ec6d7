use Rattle.std.proofs.Common.{length}
use Rattle.plus_ground.proofs.expansion.+bind.Given as goal

abbrev pub decreases-bind : goal.decreases-bind
decreases-bind l = length l.params.now
