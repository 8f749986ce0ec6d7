use Rattle.std.proofs.Common.{drop}
use Rattle.plus_printer.specs.Words.{spaced}
use Rattle.plus_printer.specs.Canon.{init_text}
use Rattle.plus_printer.proofs.AppendedLemmas.{Halfway}
use Rattle.plus_printer.proofs.sections.initials.Given as goal

abbrev pub invariant-members : goal.invariant-members
invariant-members l =
    Halfway l.initial.text.items l.text.items (spaced init_text l.members) (spaced init_text (drop l.member-index l.members))
