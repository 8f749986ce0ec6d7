-- What a contract sees of an `ExprTree`.
use Rattle.std.specs.Prelude.{◌+◌, ◌≤◌, List, [], ◌∷◌}
use Rattle.std.proofs.Common.{arith}
use denote.Param.Weighed.{most}
use Rattle.plus_tokens.specs.declared.span.Span.{Span}
use Rattle.plus_tree.specs.declared.trees.ExprNode.{ExprNode}
use Rattle.plus_tree.specs.declared.trees.ExprNode.TheVariants.{Number, Clock, Fluent, Sum, Product, Minus, Difference, Quotient}
use Rattle.plus_tree.specs.Expr.{Expr, x_number, x_clock, x_fluent, x_sum, x_product, x_minus, x_difference, x_quotient, exprs_of, expr_size, exprs_size}

abbrev pub expr_view : ExprNode → Span → Expr
expr_view (Number n) s = x_number n s
expr_view Clock s = x_clock s
expr_view (Fluent u) s = x_fluent u.value s
expr_view (Sum es) s = x_sum (exprs_of es.items) s
expr_view (Product es) s = x_product (exprs_of es.items) s
expr_view (Minus e) s = x_minus e.value s
expr_view (Difference e f) s = x_difference e.value f.value s
expr_view (Quotient e f) s = x_quotient e.value f.value s

pub most_le : (es : List Expr) → most (λ e. expr_size e + 1) es ≤ exprs_size (exprs_of es)
most_le [] = omega arith
most_le (e ∷ es) = omega (arith, most_le es)
