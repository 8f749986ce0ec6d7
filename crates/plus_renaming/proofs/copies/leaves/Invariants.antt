use Rattle.std.proofs.Common.{◌≡◌, take}
use Rattle.plus_renaming.proofs.copies.leaves.Given as goal

-- the writes so far
abbrev pub invariant-leaves : goal.invariant-leaves
invariant-leaves l = l.copy ≡ take l.member-index l.leaves
