use Rattle.std.proofs.Common.{◌≡◌, map, drop}
use Rattle.std.specs.List.{list_any}
use Rattle.plus_translation.specs.Translated.{is_later}
use Rattle.plus_translate.specs.Dues.{due_of}
use Rattle.plus_translate.proofs.due.has_later.Given as goal

abbrev pub invariant-dues : goal.invariant-dues
invariant-dues l = list_any is_later (map due_of l.dues) ≡ list_any is_later (map due_of (drop l.due-index l.dues))
