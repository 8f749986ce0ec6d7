use Rattle.std.proofs.Common.{◌≡◌, ◌≤◌, length, map, take}
use Rattle.plus_expansion.specs.Environments.{bound_object}
use Rattle.plus_ground.proofs.environments.Environment.object.Given as goal

-- no variable passed so far, from the innermost outward, has the name
abbrev pub invariant-outward : goal.invariant-outward
invariant-outward l = record {
  within : l.left ≤ length l.bounds;
  others :
      bound_object l.none (map (λ b. (b.name.now, b.object)) l.bounds) l.name
      ≡ bound_object l.none (map (λ b. (b.name.now, b.object)) (take l.left l.bounds)) l.name;
}

abbrev pub decreases-outward : goal.decreases-outward
decreases-outward l = l.left
