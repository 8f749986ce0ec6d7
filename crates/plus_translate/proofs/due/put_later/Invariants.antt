use Rattle.std.proofs.Common.{◌≡◌, ◌++◌, map, take}
use Rattle.std.specs.Prelude.{filter}
use Rattle.plus_translation.specs.Translated.{is_later, due_effect}
use Rattle.plus_translate.specs.Dues.{due_of}
use Rattle.plus_translate.proofs.due.put_later.Given as goal

abbrev pub invariant-dues : goal.invariant-dues
invariant-dues l = l.into.items ≡ l.initial.into.items ++ map due_effect (filter is_later (map due_of (take l.due-index l.dues)))
