use Rattle.std.proofs.Common.{drop}
use Rattle.plus_printer.specs.Words.{spaced}
use Rattle.plus_printer.specs.Canon.{cond_text}
use Rattle.plus_printer.proofs.AppendedLemmas.{Halfway}
use Rattle.plus_translate_command.proofs.printer.shared.conditions.Given as goal

abbrev pub invariant-members : goal.invariant-members
invariant-members l =
    Halfway l.initial.text.items l.text.items (spaced cond_text l.conds) (spaced cond_text (drop l.cond-index l.conds))
