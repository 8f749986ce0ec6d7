use Rattle.std.proofs.Common.{◌≡◌, suc, length}
use Rattle.plus_types.specs.Types.{is_above_within}
use Rattle.plus_types.proofs.types.Types.is_above.Given as goal

-- what is above the first type is above the type that is reached, in the steps that are left
abbrev pub invariant-steps : goal.invariant-steps
invariant-steps l = is_above_within l.self (suc (length l.self)) l.high l.fn.low ≡ is_above_within l.self l.left l.high l.at

abbrev pub decreases-steps : goal.decreases-steps
decreases-steps l = l.left
