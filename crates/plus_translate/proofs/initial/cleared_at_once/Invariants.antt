use Rattle.std.proofs.Common.{◌≡◌, map, take}
use Rattle.plus_translation.specs.Translated.{cleared_at_once}
use Rattle.plus_translate.specs.Dues.{due_of}
use Rattle.plus_translate.proofs.initial.cleared_at_once.Given as goal

abbrev pub invariant-dues : goal.invariant-dues
invariant-dues l = l.cleared ≡ cleared_at_once (map due_of (take l.due-index l.dues))
