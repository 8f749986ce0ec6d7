use Rattle.std.proofs.Common.{◌≡◌, [], ◌++◌, map, drop}
use Rattle.plus_translation.specs.Translated.{set_at_once}
use Rattle.plus_translate.specs.Dues.{due_of}
use Rattle.plus_translate.proofs.initial.set_at_once.Given as goal

abbrev pub invariant-dues : goal.invariant-dues
invariant-dues l = l.set ++ set_at_once l.set (map due_of (drop l.due-index l.dues)) ≡ set_at_once [] (map due_of l.dues)
