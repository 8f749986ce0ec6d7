use Rattle.std.proofs.Common.{◌≡◌, ◌-◌, drop}
use Rattle.plus_tree.specs.Effect.{effects_of}
use Rattle.plus_translation.specs.Depth.{effects_within}
use Rattle.plus_translate.proofs.depth.+effect_within.Given as goal

abbrev pub decreases-effect_within : goal.decreases-effect_within
decreases-effect_within l = goal.size-effect_within l

-- the members so far are within
abbrev pub invariant-members : goal.invariant-members
invariant-members l = effects_within (l.room - 1) (effects_of l.member-items) ≡ effects_within (l.room - 1) (effects_of (drop l.member-index l.member-items))
