use Rattle.std.proofs.Common.{◌≡◌, map, take}
use Rattle.plus_translation.specs.Translated.{variable_of}
use Rattle.plus_translate.proofs.pieces.variables.Given as goal

-- the variables so far
abbrev pub invariant-list : goal.invariant-list
invariant-list l = l.args ≡ map variable_of (take l.member-index l.list)
