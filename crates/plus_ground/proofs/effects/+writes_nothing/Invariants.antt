use Rattle.std.proofs.Common.{◌≡◌, drop}
use Rattle.plus_tree.specs.Effect.{effects_of}
use Rattle.plus_ground.specs.Nothing.{write_nothing}
use Rattle.plus_ground.proofs.effects.+writes_nothing.Given as goal

abbrev pub decreases-writes_nothing : goal.decreases-writes_nothing
decreases-writes_nothing l = goal.size-writes_nothing l

-- no write stands in the members passed
abbrev pub invariant-members : goal.invariant-members
invariant-members l = write_nothing (effects_of l.member-items) ≡ write_nothing (effects_of (drop l.member-index l.member-items))
