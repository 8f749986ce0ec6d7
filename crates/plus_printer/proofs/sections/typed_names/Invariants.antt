use Rattle.std.proofs.Common.{drop}
use Rattle.plus_printer.specs.Words.{spaced, typed_text}
use Rattle.plus_printer.proofs.AppendedLemmas.{Halfway}
use Rattle.plus_printer.proofs.sections.typed_names.Given as goal

abbrev pub invariant-members : goal.invariant-members
invariant-members l =
    Halfway l.initial.text.items l.text.items (spaced typed_text l.names) (spaced typed_text (drop l.member-index l.names))
