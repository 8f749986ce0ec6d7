use Rattle.std.proofs.Common.{refl, inl, inr}
use Rattle.std.proofs.lemmas.Result.{err_from_is_err_and}
use Rattle.plus_tree.specs.Cond.{conds_of}
use Rattle.plus_expansion.specs.Literals.{condition_literals, conditions_literals}
use Rattle.plus_numbering.proofs.Unfits.{member_fits, member_unfit, then_tests}
use Rattle.plus_numbering.proofs.fitting.+condition.Goals as goal

pub members-preserved : goal.members-preserved
members-preserved g t c =
    member_fits g.Q.Exact.fits (λ xs. conditions_literals (conds_of xs)) condition_literals (λ x xs. refl) c.deref-member-items.result.now c.members.member-index c.member-item.result _
    c.members-test.true c.member-item.is c.members.invariant c.in_ok-condition-in-All.ensures

pub returns-in_err-condition-in-All : goal.returns-in_err-condition-in-All
returns-in_err-condition-in-All g t c =
    let p = err_from_is_err_and c.from_residual-in_err-condition-in-All.result c.from_residual-in_err-condition-in-All.ensures.1 in
    let f =
    member_unfit g.Q.Exact.fits (λ xs. conditions_literals (conds_of xs)) condition_literals (λ x xs. refl) c.deref-member-items.result.now c.members.member-index c.member-item.result _ _
    c.members-test.true c.member-item.is c.members.invariant c.in_err-condition-in-All.ensures in
    elim c.in-All.is [
      | inl e ↦ rw (p.1, p.2) (rw (← c.cond.view_is, e, ← c.deref-member-items.ensures.value) f)
      | inr e ↦ rw (p.1, p.2) (rw (← c.cond.view_is, e, ← c.deref-member-items.ensures.value) f)
    ]

pub returns-in_ok-condition-in-Imply : goal.returns-in_ok-condition-in-Imply
returns-in_ok-condition-in-Imply g t c =
    rw (← c.cond.view_is, c.in-Imply.is, ← c.deref.ensures, ← c.deref-in-Imply.ensures)
    (then_tests g.Q.Exact.fits _ _ c.condition-in-Imply.result c.in_ok-condition-in-Imply.ensures c.condition-in-Imply.ensures)

pub returns-in_ok-expression-in-Compare : goal.returns-in_ok-expression-in-Compare
returns-in_ok-expression-in-Compare g t c =
    rw (← c.cond.view_is, c.in-Compare.is, ← c.deref-in-Compare.ensures, ← c.deref-in-Compare-2.ensures)
    (then_tests g.Q.Exact.fits _ _ c.expression-in-Compare.result c.in_ok-expression-in-Compare.ensures c.expression-in-Compare.ensures)
