use Rattle.std.proofs.Common.{◌≡◌, take}
use Rattle.plus_state.proofs.states.State.copy.Given as goal

abbrev pub invariant-loop-motion : goal.invariant-loop-motion
invariant-loop-motion g l = l.motions.items ≡ take l.motion-index l.motion-items
