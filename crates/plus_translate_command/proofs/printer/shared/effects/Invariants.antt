use Rattle.std.proofs.Common.{drop}
use Rattle.plus_printer.specs.Words.{spaced}
use Rattle.plus_printer.specs.Canon.{effect_text}
use Rattle.plus_printer.proofs.AppendedLemmas.{Halfway}
use Rattle.plus_translate_command.proofs.printer.shared.effects.Given as goal

abbrev pub invariant-members : goal.invariant-members
invariant-members l =
    Halfway l.initial.text.items l.text.items (spaced effect_text l.effects) (spaced effect_text (drop l.effect_tree-index l.effects))
