use Rattle.std.proofs.Common.{◌≡◌, map, take}
use Rattle.plus_translate_command.specs.Printer.Woven.{own_parts, parts_of}
use Rattle.plus_translate_command.proofs.printer.own.old_texts.Given as goal

abbrev pub invariant-members : goal.invariant-members
invariant-members l = map parts_of l.olds.items ≡ map own_parts (take l.action-index l.actions)
