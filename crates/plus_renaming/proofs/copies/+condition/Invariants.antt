use Rattle.std.proofs.Common.{◌≡◌, take}
use Rattle.plus_renaming.proofs.copies.+condition.Given as goal

abbrev pub decreases-condition : goal.decreases-condition
decreases-condition l = goal.size-condition l

-- the members so far
abbrev pub invariant-all : goal.invariant-all
invariant-all l = l.copy.items ≡ take l.member-index l.member-items

abbrev pub invariant-any : goal.invariant-any
invariant-any l = l.copy.items ≡ take l.member-index l.member-items
