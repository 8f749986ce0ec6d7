use Rattle.std.proofs.Common.{arith}
use Rattle.std.proofs.lemmas.Grind.{common_steps}
use Rattle.plus_state.proofs.MotionLemmas.{laid_none}
use Rattle.plus_state.proofs.states.State.new.Goals as goal

pub returns : goal.returns
returns g c = grind (arith, common_steps, laid_none)
