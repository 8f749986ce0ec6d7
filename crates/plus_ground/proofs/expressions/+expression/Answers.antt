use Rattle.std.proofs.Common.{◌≡◌, ◌∙◌, ap, sym, rules, refl}
use Rattle.plus_tree.specs.Expr.{expr_size, exprs_size, exprs_of}
use Rattle.plus_model.specs.Terms.{Fluent, Sum, Product}
use Rattle.plus_expansion.specs.Environments.{fluent_number}
use Rattle.plus_expansion.specs.Expansion.{expression_meant}
use Rattle.plus_types.specs.Faults.{problem_context}
use Rattle.plus_literal.specs.Value.{LiteralFits}
use Rattle.plus_expansion.specs.Literals.{expression_literals}
use Rattle.plus_ground.proofs.ExpressionsLemmas.{total_after, all_left, all_right, member_fits, member_smaller}
use Rattle.plus_ground.proofs.expressions.+expression.Goals as goal

pub expression-requires : goal.expression-requires
expression-requires g t c κs within =
    let h = rw (← c.expr.view_is, c.in-Sum.is, ← c.deref-member-items.ensures.value) at c.requires in
    let smaller = member_smaller c.deref-member-items.result.now c.terms.member-index c.member-item.result c.terms-test.true c.member-item.is in
    let size : expr_size c.args.expr.now ≡ exprs_size (exprs_of c.deref-member-items.result.now) = rw (← c.expr.view_is, c.in-Sum.is, ← c.deref-member-items.ensures.value) refl in
    (search rules, (within, member_fits g.Q.Exact.fits c.deref-member-items.result.now c.terms.member-index c.member-item.result c.terms-test.true c.member-item.is h))

pub terms-preserved : goal.terms-preserved
terms-preserved g t c =
    total_after Sum (problem_context c.args.numbering.now.typed.now.domain c.args.numbering.now.typed.now.problem) c.args.env.now
    c.deref-member-items.result.now c.terms.member-index c.member-item.result _ _ _ _
    c.terms-test.true c.member-item.is c.terms.invariant c.in_ok-next-in-Sum.ensures c.in_ok-chain-in-Sum.ensures refl

pub expression-requires-in-factors : goal.expression-requires-in-factors
expression-requires-in-factors g t c κs within =
    let h = rw (← c.expr.view_is, c.in-Product.is, ← c.deref-member-items-in-Product.ensures.value) at c.requires in
    let smaller = member_smaller c.deref-member-items-in-Product.result.now c.factors.member-index c.member-item-in-factors.result c.factors-test.true c.member-item-in-factors.is in
    let size : expr_size c.args.expr.now ≡ exprs_size (exprs_of c.deref-member-items-in-Product.result.now) = rw (← c.expr.view_is, c.in-Product.is, ← c.deref-member-items-in-Product.ensures.value) refl in
    (search rules, (within, member_fits g.Q.Exact.fits c.deref-member-items-in-Product.result.now c.factors.member-index c.member-item-in-factors.result c.factors-test.true c.member-item-in-factors.is h))

pub factors-preserved : goal.factors-preserved
factors-preserved g t c =
    total_after Product (problem_context c.args.numbering.now.typed.now.domain c.args.numbering.now.typed.now.problem) c.args.env.now
    c.deref-member-items-in-Product.result.now c.factors.member-index c.member-item-in-factors.result _ _ _ _
    c.factors-test.true c.member-item-in-factors.is c.factors.invariant c.in_ok-next-in-Product.ensures c.in_ok-chain-in-Product.ensures refl

pub expression-requires-in-Difference : goal.expression-requires-in-Difference
expression-requires-in-Difference g t c κs within =
    let h = rw (← c.expr.view_is, c.in-Difference.is) at c.requires in
    (search rules, (within, rw c.deref-in-Difference.ensures (all_left (LiteralFits g.Q.Exact.fits) (expression_literals c.in-Difference.left.value) (expression_literals c.in-Difference.right.value) h)))

pub expression-requires-in-Difference-2 : goal.expression-requires-in-Difference-2
expression-requires-in-Difference-2 g t c κs within =
    let h = rw (← c.expr.view_is, c.in-Difference.is) at c.requires in
    (search rules, (within, rw c.deref-in-Difference-2.ensures (all_right (LiteralFits g.Q.Exact.fits) (expression_literals c.in-Difference.left.value) (expression_literals c.in-Difference.right.value) h)))

pub expression-requires-in-Quotient : goal.expression-requires-in-Quotient
expression-requires-in-Quotient g t c κs within =
    let h = rw (← c.expr.view_is, c.in-Quotient.is) at c.requires in
    (search rules, (within, rw c.deref-in-Quotient.ensures (all_left (LiteralFits g.Q.Exact.fits) (expression_literals c.in-Quotient.left.value) (expression_literals c.in-Quotient.right.value) h)))

pub expression-requires-in-Quotient-2 : goal.expression-requires-in-Quotient-2
expression-requires-in-Quotient-2 g t c κs within =
    let h = rw (← c.expr.view_is, c.in-Quotient.is) at c.requires in
    (search rules, (within, rw c.deref-in-Quotient-2.ensures (all_right (LiteralFits g.Q.Exact.fits) (expression_literals c.in-Quotient.left.value) (expression_literals c.in-Quotient.right.value) h)))

pub returns-in_ok-fluent-in-Fluent : goal.returns-in_ok-fluent-in-Fluent
returns-in_ok-fluent-in-Fluent g t c =
    let k = problem_context c.args.numbering.now.typed.now.domain c.args.numbering.now.typed.now.problem in
    let meant : expression_meant k c.args.env.now c.args.expr.now ≡ Fluent (fluent_number k c.args.env.now c.in-Fluent.used.value) = rw (← c.expr.view_is, c.in-Fluent.is) refl in
    ap Fluent (c.in_ok-fluent-in-Fluent.ensures ∙ ap (λ u. fluent_number k c.args.env.now u) c.deref.ensures) ∙ sym meant
