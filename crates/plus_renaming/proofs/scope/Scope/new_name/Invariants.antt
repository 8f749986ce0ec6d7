use Rattle.std.proofs.Common.{◌≡◌, ◌≤◌, length, take, map, reverse}
use Rattle.plus_translation.specs.Renamed.{new_name}
use Rattle.plus_renaming.proofs.ScopeLemmas.{shown}
use Rattle.plus_renaming.proofs.scope.Scope.new_name.Given as goal

-- the name is none of those that were looked at
abbrev pub invariant-each : goal.invariant-each
invariant-each l =
    (l.left ≤ length l.self-inside.bound.items)
    × (new_name l.self l.name ≡ new_name (map shown (reverse (take l.left l.self-inside.bound.items))) l.name)

abbrev pub decreases-each : goal.decreases-each
decreases-each l = l.left
