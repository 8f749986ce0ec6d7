use Rattle.std.proofs.Common.{◌≡◌, true, false, subst}
use Rattle.std.proofs.lemmas.Result.{err_from_is_err_and}
use Rattle.plus_model.specs.Value.{holds}
use Rattle.plus_model.specs.Terms.{Condition}
use Rattle.plus_state.specs.View.{condition_of, overflow_of}
use Rattle.plus_state.specs.Asked.{AllFit, FirstUnfit}
use Rattle.plus_state.specs.Tests.{tests_of}
use Rattle.plus_state.proofs.TestsLemmas.{going_next, going_end, going_err, going_start, next_member, no_member, fits_all, fits_any, undecided_all, undecided_any, all_view, any_view}
use Rattle.plus_state.proofs.truth.+truth.Goals as goal

pub open-all-init : goal.open-all-init
open-all-init g t c =
    going_start _ true _ _ (fits_all g.Q.Exact.value c.args.cond.now c.in-All.members c.deref-member-items.result.now _ _ c.in-All.is c.deref-member-items.ensures.value c.requires.fits) (undecided_all g.Q.Exact.value c.args.cond.now c.in-All.members c.deref-member-items.result.now _ _ c.in-All.is c.deref-member-items.ensures.value c.requires.undecided)

pub open-all-preserved : goal.open-all-preserved
open-all-preserved g t c =
    let e = next_member (condition_of g.Q.Exact.value) c.deref-member-items.result.now c.all.member-index c.member-item.result c.all-test.true c.member-item.is in
    rw c.join-truth.ensures (going_next _ _ _ _ _ _ _ _ (rw e at c.all.invariant) c.in_ok-inner-in-All.ensures.0 c.in_ok-inner-in-All.ensures.1)

pub open-returns-in_err-inner-in-All : goal.open-returns-in_err-inner-in-All
open-returns-in_err-inner-in-All g t c =
    let p = err_from_is_err_and c.from_residual.result c.from_residual.ensures.1 in
    let e = next_member (condition_of g.Q.Exact.value) c.deref-member-items.result.now c.all.member-index c.member-item.result c.all-test.true c.member-item.is in
    let w = all_view g.Q.Exact.value c.args.cond.now c.in-All.members c.deref-member-items.result.now c.in-All.is c.deref-member-items.ensures.value in
    rw (p.1, p.2) (subst (λ (k : Condition). FirstUnfit g.Q.Exact.fits (tests_of k c.args.state.now) (overflow_of g.Q.Exact.value c.in_err-inner-in-All.field-0.0)) w (going_err _ _ _ _ _ _ _ _ (rw e at c.all.invariant) c.in_err-inner-in-All.ensures))

pub open-returns-after-all : goal.open-returns-after-all
open-returns-after-all g t c =
    let e = no_member (condition_of g.Q.Exact.value) c.deref-member-items.result.now c.all.member-index c.all-test.false in
    let w = all_view g.Q.Exact.value c.args.cond.now c.in-All.members c.deref-member-items.result.now c.in-All.is c.deref-member-items.ensures.value in
    subst (λ (k : Condition). AllFit g.Q.Exact.fits (tests_of k c.args.state.now) × (c.all.truth ≡ holds k c.args.state.now)) w (going_end _ _ _ _ _ (rw e at c.all.invariant))

pub open-any-init : goal.open-any-init
open-any-init g t c =
    going_start _ false _ _ (fits_any g.Q.Exact.value c.args.cond.now c.in-Any.members c.deref-member-items-in-Any.result.now _ _ c.in-Any.is c.deref-member-items-in-Any.ensures.value c.requires.fits) (undecided_any g.Q.Exact.value c.args.cond.now c.in-Any.members c.deref-member-items-in-Any.result.now _ _ c.in-Any.is c.deref-member-items-in-Any.ensures.value c.requires.undecided)

pub open-any-preserved : goal.open-any-preserved
open-any-preserved g t c =
    let e = next_member (condition_of g.Q.Exact.value) c.deref-member-items-in-Any.result.now c.any.member-index c.member-item-in-any.result c.any-test.true c.member-item-in-any.is in
    rw c.join-truth-in-any.ensures (going_next _ _ _ _ _ _ _ _ (rw e at c.any.invariant) c.in_ok-inner-in-Any.ensures.0 c.in_ok-inner-in-Any.ensures.1)

pub open-returns-in_err-inner-in-Any : goal.open-returns-in_err-inner-in-Any
open-returns-in_err-inner-in-Any g t c =
    let p = err_from_is_err_and c.from_residual-in_err-inner-in-Any.result c.from_residual-in_err-inner-in-Any.ensures.1 in
    let e = next_member (condition_of g.Q.Exact.value) c.deref-member-items-in-Any.result.now c.any.member-index c.member-item-in-any.result c.any-test.true c.member-item-in-any.is in
    let w = any_view g.Q.Exact.value c.args.cond.now c.in-Any.members c.deref-member-items-in-Any.result.now c.in-Any.is c.deref-member-items-in-Any.ensures.value in
    rw (p.1, p.2) (subst (λ (k : Condition). FirstUnfit g.Q.Exact.fits (tests_of k c.args.state.now) (overflow_of g.Q.Exact.value c.in_err-inner-in-Any.field-0.0)) w (going_err _ _ _ _ _ _ _ _ (rw e at c.any.invariant) c.in_err-inner-in-Any.ensures))

pub open-returns-after-any : goal.open-returns-after-any
open-returns-after-any g t c =
    let e = no_member (condition_of g.Q.Exact.value) c.deref-member-items-in-Any.result.now c.any.member-index c.any-test.false in
    let w = any_view g.Q.Exact.value c.args.cond.now c.in-Any.members c.deref-member-items-in-Any.result.now c.in-Any.is c.deref-member-items-in-Any.ensures.value in
    subst (λ (k : Condition). AllFit g.Q.Exact.fits (tests_of k c.args.state.now) × (c.any.truth ≡ holds k c.args.state.now)) w (going_end _ _ _ _ _ (rw e at c.any.invariant))
