use Rattle.std.proofs.Common.{drop}
use Rattle.plus_tree.specs.Cond.{conds_of}
use Rattle.plus_printer.specs.Canon.{conds_text}
use Rattle.plus_printer.proofs.AppendedLemmas.{Halfway}
use Rattle.plus_printer.proofs.conditions.+condition.Given as goal

abbrev pub decreases-condition : goal.decreases-condition
decreases-condition l = goal.size-condition l

abbrev pub invariant-all : goal.invariant-all
invariant-all l =
    Halfway l.initial.text.items l.text.items (conds_text (conds_of l.member-items)) (conds_text (conds_of (drop l.member-index l.member-items)))

abbrev pub invariant-any : goal.invariant-any
invariant-any l =
    Halfway l.initial.text.items l.text.items (conds_text (conds_of l.member-items)) (conds_text (conds_of (drop l.member-index l.member-items)))
