use Rattle.std.proofs.Common.{refl}
use Rattle.std.proofs.lemmas.Result.{err_from_is_err_and}
use Rattle.plus_tree.specs.Effect.{effects_of}
use Rattle.plus_expansion.specs.Literals.{effect_literals, effects_literals}
use Rattle.plus_numbering.proofs.Unfits.{member_fits, member_unfit, then_tests}
use Rattle.plus_numbering.proofs.fitting.+effect.Goals as goal

pub members-preserved : goal.members-preserved
members-preserved g t c =
    member_fits g.Q.Exact.fits (λ xs. effects_literals (effects_of xs)) effect_literals (λ x xs. refl) c.deref-member-items.result.now c.members.member-index c.member-item.result _
    c.members-test.true c.member-item.is c.members.invariant c.in_ok-effect-in-All.ensures

pub returns-in_err-effect-in-All : goal.returns-in_err-effect-in-All
returns-in_err-effect-in-All g t c =
    let p = err_from_is_err_and c.from_residual.result c.from_residual.ensures.1 in
    let f =
    member_unfit g.Q.Exact.fits (λ xs. effects_literals (effects_of xs)) effect_literals (λ x xs. refl) c.deref-member-items.result.now c.members.member-index c.member-item.result _ _
    c.members-test.true c.member-item.is c.members.invariant c.in_err-effect-in-All.ensures in
    rw (p.1, p.2) (rw (← c.effect_tree.view_is, c.in-All.is, ← c.deref-member-items.ensures.value) f)

pub returns-in_ok-condition-in-When : goal.returns-in_ok-condition-in-When
returns-in_ok-condition-in-When g t c =
    rw (← c.effect_tree.view_is, c.in-When.is, ← c.deref-in-When.ensures, ← c.as_slice.ensures)
    (then_tests g.Q.Exact.fits _ _ c.leaves.result c.in_ok-condition-in-When.ensures c.leaves.ensures)
