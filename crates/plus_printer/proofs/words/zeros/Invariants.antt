use Rattle.std.proofs.Common.{replicate}
use Rattle.plus_printer.specs.Appended.{IsAppended}
use Rattle.plus_printer.proofs.words.zeros.Given as goal

abbrev pub invariant-zeros : goal.invariant-zeros
invariant-zeros l = IsAppended l.initial.text.items l.text.items (replicate l._digit 48)
