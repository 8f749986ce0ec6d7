use Rattle.std.proofs.Common.{drop}
use Rattle.plus_tree.specs.Expr.{exprs_of}
use Rattle.plus_printer.specs.Canon.{exprs_text}
use Rattle.plus_printer.proofs.AppendedLemmas.{Halfway}
use Rattle.plus_printer.proofs.expressions.+expression.Given as goal

abbrev pub decreases-expression : goal.decreases-expression
decreases-expression l = goal.size-expression l

abbrev pub invariant-sum : goal.invariant-sum
invariant-sum l =
    Halfway l.initial.text.items l.text.items (exprs_text (exprs_of l.member-items)) (exprs_text (exprs_of (drop l.member-index l.member-items)))

abbrev pub invariant-product : goal.invariant-product
invariant-product l =
    Halfway l.initial.text.items l.text.items (exprs_text (exprs_of l.member-items)) (exprs_text (exprs_of (drop l.member-index l.member-items)))
