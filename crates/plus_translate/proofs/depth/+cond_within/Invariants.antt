use Rattle.std.proofs.Common.{◌≡◌, ◌-◌, drop}
use Rattle.plus_tree.specs.Cond.{conds_of}
use Rattle.plus_translation.specs.Depth.{conds_within}
use Rattle.plus_translate.proofs.depth.+cond_within.Given as goal

abbrev pub decreases-cond_within : goal.decreases-cond_within
decreases-cond_within l = goal.size-cond_within l

-- the members so far are within
abbrev pub invariant-members : goal.invariant-members
invariant-members l = conds_within (l.room - 1) (conds_of l.member-items) ≡ conds_within (l.room - 1) (conds_of (drop l.member-index l.member-items))
