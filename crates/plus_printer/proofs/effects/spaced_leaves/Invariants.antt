use Rattle.std.proofs.Common.{drop}
use Rattle.plus_printer.specs.Words.{spaced}
use Rattle.plus_printer.specs.Canon.{leaf_text}
use Rattle.plus_printer.proofs.AppendedLemmas.{Halfway}
use Rattle.plus_printer.proofs.effects.spaced_leaves.Given as goal

abbrev pub invariant-members : goal.invariant-members
invariant-members l =
    Halfway l.initial.text.items l.text.items (spaced leaf_text l.leaves) (spaced leaf_text (drop l.write-index l.leaves))
