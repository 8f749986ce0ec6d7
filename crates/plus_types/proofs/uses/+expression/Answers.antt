use Rattle.std.proofs.Common.{refl, inl, inr}
use Rattle.std.proofs.lemmas.Result.{err_from_is_err_and}
use Rattle.plus_tree.specs.Expr.{exprs_of}
use Rattle.plus_types.specs.Faults.{expr_faults, exprs_faults}
use Rattle.plus_types.specs.Known.{context}
use Rattle.plus_types.proofs.WalkLemmas.{walk_err}
use Rattle.plus_types.proofs.uses.+expression.Goals as goal

pub returns-in_err-expression-in-Sum : goal.returns-in_err-expression-in-Sum
returns-in_err-expression-in-Sum t c =
    let p = err_from_is_err_and c.from_residual-in_err-expression-in-Sum.result c.from_residual-in_err-expression-in-Sum.ensures.1 in
    let k = context c.args.known.now in
    let f = walk_err _ (λ xs. exprs_faults k c.args.vars.now c.args.clock (exprs_of xs)) (expr_faults k c.args.vars.now c.args.clock) (λ x xs. exprs_faults k c.args.vars.now c.args.clock (exprs_of xs)) (λ x xs. refl)
    c.deref-member-items.result.now c.members.member-index c.member-item.result _ c.members-test.true c.member-item.is c.members.invariant c.in_err-expression-in-Sum.ensures in
    elim c.in-Sum.is [
      | inl e ↦ rw (p.1, p.2) (rw (← c.expr.view_is, e, ← c.deref-member-items.ensures.value) f)
      | inr e ↦ rw (p.1, p.2) (rw (← c.expr.view_is, e, ← c.deref-member-items.ensures.value) f)
    ]
