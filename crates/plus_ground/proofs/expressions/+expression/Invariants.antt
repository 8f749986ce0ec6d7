use Rattle.std.proofs.Common.{◌≡◌, option_map, take}
use Rattle.plus_model.specs.Terms.{Sum, Product}
use Rattle.plus_tree.specs.Expr.{exprs_of}
use Rattle.plus_types.specs.Faults.{problem_context}
use Rattle.plus_state.specs.View.{expression_of}
use Rattle.plus_expansion.specs.Expansion.{expressions_meant}
use Rattle.plus_ground.specs.Chains.{total}
use Rattle.plus_ground.proofs.expressions.+expression.Given as goal

abbrev pub decreases-expression : goal.decreases-expression
decreases-expression g l = goal.size-expression g l

-- the sum of the terms so far
abbrev pub invariant-terms : goal.invariant-terms
invariant-terms g l =
    option_map (expression_of g.Q.Exact.value) l.total
    ≡ total Sum (expressions_meant (problem_context l.numbering.typed.now.domain l.numbering.typed.now.problem) l.env (exprs_of (take l.member-index l.member-items)))

-- the product of the factors so far
abbrev pub invariant-factors : goal.invariant-factors
invariant-factors g l =
    option_map (expression_of g.Q.Exact.value) l.total
    ≡ total Product (expressions_meant (problem_context l.numbering.typed.now.domain l.numbering.typed.now.problem) l.env (exprs_of (take l.member-index l.member-items)))
