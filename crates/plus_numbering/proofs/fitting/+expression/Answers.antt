use Rattle.std.proofs.Common.{refl, inl, inr}
use Rattle.std.proofs.lemmas.Result.{err_from_is_err_and}
use Rattle.plus_tree.specs.Expr.{exprs_of}
use Rattle.plus_expansion.specs.Literals.{expression_literals, expressions_literals}
use Rattle.plus_numbering.proofs.Unfits.{member_fits, member_unfit, then_tests}
use Rattle.plus_numbering.proofs.fitting.+expression.Goals as goal

pub members-preserved : goal.members-preserved
members-preserved g t c =
    member_fits g.Q.Exact.fits (λ xs. expressions_literals (exprs_of xs)) expression_literals (λ x xs. refl) c.deref-member-items.result.now c.members.member-index c.member-item.result _
    c.members-test.true c.member-item.is c.members.invariant c.in_ok-expression-in-Sum.ensures

pub returns-in_err-expression-in-Sum : goal.returns-in_err-expression-in-Sum
returns-in_err-expression-in-Sum g t c =
    let p = err_from_is_err_and c.from_residual-in_err-expression-in-Sum.result c.from_residual-in_err-expression-in-Sum.ensures.1 in
    let f =
    member_unfit g.Q.Exact.fits (λ xs. expressions_literals (exprs_of xs)) expression_literals (λ x xs. refl) c.deref-member-items.result.now c.members.member-index c.member-item.result _ _
    c.members-test.true c.member-item.is c.members.invariant c.in_err-expression-in-Sum.ensures in
    elim c.in-Sum.is [
      | inl e ↦ rw (p.1, p.2) (rw (← c.expr.view_is, e, ← c.deref-member-items.ensures.value) f)
      | inr e ↦ rw (p.1, p.2) (rw (← c.expr.view_is, e, ← c.deref-member-items.ensures.value) f)
    ]

pub returns-in_ok-expression-in-Difference : goal.returns-in_ok-expression-in-Difference
returns-in_ok-expression-in-Difference g t c =
    let f = then_tests g.Q.Exact.fits _ _ c.expression-in-Difference-2.result c.in_ok-expression-in-Difference.ensures c.expression-in-Difference-2.ensures in
    elim c.in-Difference.is [
      | inl e ↦ rw (← c.expr.view_is, e, ← c.deref-in-Difference.ensures, ← c.deref-in-Difference-2.ensures) f
      | inr e ↦ rw (← c.expr.view_is, e, ← c.deref-in-Difference.ensures, ← c.deref-in-Difference-2.ensures) f
    ]
