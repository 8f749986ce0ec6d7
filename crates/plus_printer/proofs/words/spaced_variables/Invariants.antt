use Rattle.std.proofs.Common.{drop}
use Rattle.plus_printer.specs.Words.{spaced, variable_text}
use Rattle.plus_printer.proofs.AppendedLemmas.{Halfway}
use Rattle.plus_printer.proofs.words.spaced_variables.Given as goal

abbrev pub invariant-members : goal.invariant-members
invariant-members l =
    Halfway l.initial.text.items l.text.items (spaced variable_text l.names) (spaced variable_text (drop l.name-index l.names))
