use Rattle.std.proofs.Common.{◌≡◌, ◌+◌, drop}
use Rattle.plus_tree.specs.Expr.{exprs_of}
use Rattle.plus_numbering.specs.Sizes.{held, operands, operators, expressions_size}
use Rattle.plus_numbering.proofs.sizes.+expression.Given as goal

abbrev pub decreases-expression : goal.decreases-expression
decreases-expression l = goal.size-expression l

-- the operators, and the nodes of the operands seen so far
abbrev pub invariant-members : goal.invariant-members
invariant-members l = record {
  counted : held (l.total + expressions_size (exprs_of (drop l.member-index l.member-items))) ≡ held (operators (operands (exprs_of l.member-items)) + expressions_size (exprs_of l.member-items));
  no_more : l.total ≡ held l.total;
}
