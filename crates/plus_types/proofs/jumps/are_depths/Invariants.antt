use Rattle.std.proofs.Common.{◌≡◌, false, length, take}
use Rattle.std.specs.List.{list_any}
use Rattle.plus_types.specs.Jumps.{depth_of}
use Rattle.plus_types.proofs.JumpLemmas.{misplaced}
use Rattle.plus_types.proofs.jumps.are_depths.Given as goal

-- none of the types seen so far is misplaced
abbrev pub invariant-types : goal.invariant-types
invariant-types l = list_any (misplaced (depth_of l.listed l.depths) (length l.types)) (take l.member-index l.types) ≡ false
