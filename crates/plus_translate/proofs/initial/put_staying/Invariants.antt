use Rattle.std.proofs.Common.{◌≡◌, ◌++◌, take}
use Rattle.std.specs.Prelude.{filter}
use Rattle.plus_translation.specs.Translated.{stays_in_init}
use Rattle.plus_translate.proofs.initial.put_staying.Given as goal

abbrev pub invariant-init : goal.invariant-init
invariant-init l = l.into ≡ l.initial.into ++ filter (stays_in_init l.set l.cleared) (take l.kept-index l.init)
