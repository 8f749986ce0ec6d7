use Rattle.std.proofs.Common.{drop}
use Rattle.plus_printer.specs.Words.{spaced, term_text}
use Rattle.plus_printer.proofs.AppendedLemmas.{Halfway}
use Rattle.plus_printer.proofs.words.terms.Given as goal

abbrev pub invariant-members : goal.invariant-members
invariant-members l =
    Halfway l.initial.text.items l.text.items (spaced term_text l.terms) (spaced term_text (drop l.term-index l.terms))
