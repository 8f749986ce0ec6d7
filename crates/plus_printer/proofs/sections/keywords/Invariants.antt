use Rattle.std.proofs.Common.{drop}
use Rattle.plus_printer.specs.Words.{spaced}
use Rattle.plus_printer.specs.Canon.{keyword_text}
use Rattle.plus_printer.proofs.AppendedLemmas.{Halfway}
use Rattle.plus_printer.proofs.sections.keywords.Given as goal

abbrev pub invariant-members : goal.invariant-members
invariant-members l =
    Halfway l.initial.text.items l.text.items (spaced keyword_text l.keywords) (spaced keyword_text (drop l.member-index l.keywords))
