use Rattle.std.proofs.Common.{◌≡◌, take}
use Rattle.plus_renaming.proofs.copies.+effect.Given as goal

abbrev pub decreases-effect : goal.decreases-effect
decreases-effect l = goal.size-effect l

-- the members so far
abbrev pub invariant-all : goal.invariant-all
invariant-all l = l.copy.items ≡ take l.member-index l.member-items
