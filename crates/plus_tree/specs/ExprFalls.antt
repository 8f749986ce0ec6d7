-- Each expression inside an expression is smaller.
use Rattle.std.specs.Prelude.{◌≤◌, max}
use Rattle.std.proofs.Common.{arith}
use Rattle.plus_tokens.specs.declared.span.Span.{Span}
use Rattle.plus_tree.specs.declared.trees.ExprNode.{ExprNode}
use Rattle.plus_tree.specs.declared.trees.ExprNode.TheVariants.{Number, Clock, Fluent, Sum, Product, Minus, Difference, Quotient}
use Rattle.plus_tree.specs.declared.trees.ExprTree.TheDeep.{deep-ExprNode}
use Rattle.plus_tree.specs.Expr.{expr_size}
use Rattle.plus_tree.specs.ExprView.{expr_view, most_le}

pub expr_falls : (n : ExprNode) (s : Span) → max (deep-ExprNode n) 0 ≤ expr_size (expr_view n s)
expr_falls (Number n) s = omega arith
expr_falls Clock s = omega arith
expr_falls (Fluent u) s = omega arith
expr_falls (Sum v) s = omega (arith, most_le v.items)
expr_falls (Product v) s = omega (arith, most_le v.items)
expr_falls (Minus e) s = omega arith
expr_falls (Difference e f) s = omega arith
expr_falls (Quotient e f) s = omega arith
