use Rattle.std.proofs.Common.{◌≡◌, map, take}
use Rattle.plus_translation.specs.Renamed.{renamed_term}
use Rattle.plus_renaming.proofs.renaming.Renamer.terms.Given as goal

-- the terms so far
abbrev pub invariant-terms : goal.invariant-terms
invariant-terms l = l.copy ≡ map (renamed_term l.self.scope) (take l.member-index l.terms)
