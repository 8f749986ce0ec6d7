use Rattle.std.proofs.Common.{◌≡◌, map, take}
use Rattle.plus_translation.specs.Renamed.{renamed_leaf}
use Rattle.plus_renaming.proofs.renaming.Renamer.leaves.Given as goal

-- the writes so far
abbrev pub invariant-leaves : goal.invariant-leaves
invariant-leaves l = l.copy ≡ map (renamed_leaf l.self.scope) (take l.member-index l.leaves)
