use Rattle.std.proofs.Common.{◌<◌, ◌+◌, ◌^◌, true, false, subst, sym}
use Rattle.std.proofs.lemmas.Result.{err_from_is_err_and}
use Rattle.plus_model.specs.Terms.{Condition}
use Rattle.plus_state.specs.View.{condition_of}
use Rattle.plus_state.specs.Fits.{Fits, comparisons}
use Rattle.plus_state.proofs.TestsLemmas.{next_member, no_member, all_view, any_view, undecided_all, undecided_any}
use Rattle.plus_crossing.specs.Asked.{AllPass, FirstFailing, cond_stop_of}
use Rattle.plus_crossing.specs.Conds.{live_asks, TruthAfter}
use Rattle.plus_crossing.proofs.Walking.{walking_start, walking_next, walking_stop, walking_end, truths_start, truths_next, truths_end, truth_atom}
use Rattle.plus_state.proofs.Testing.{pass_none}
use Rattle.plus_crossing.proofs.afters.+after.Goals as goal

pub truth_after-all-init : goal.truth_after-all-init
truth_after-all-init g t c =
    let w = all_view g.Q.Exact.value c.args.cond.now c.in-All.members c.deref-member-items.result.now c.in-All.is c.deref-member-items.ensures.value in
    record {
      walking = walking_start _ _ _ true _ _ (subst (Fits _ _) (sym w) c.requires.fits) (undecided_all g.Q.Exact.value c.args.cond.now c.in-All.members c.deref-member-items.result.now _ _ c.in-All.is c.deref-member-items.ensures.value c.in_default.ensures) (subst (λ (k : Condition). c.args.before + comparisons k < 2 ^ 32) (sym w) c.requires.few);
      truths = truths_start _ true _ _;
    }

pub truth_after-all-preserved : goal.truth_after-all-preserved
truth_after-all-preserved g t c =
    let e = next_member (condition_of g.Q.Exact.value) c.deref-member-items.result.now c.all.member-index c.member-item.result c.all-test.true c.member-item.is in
    record {
      walking = walking_next _ _ _ true _ _ _ _ _ (rw e at c.all.invariant.walking) _ c.comparisons.ensures c.in_ok-soon-in-All.ensures.0;
      truths = rw c.join-truth.ensures (truths_next _ true _ _ _ _ _ _ (rw e at c.all.invariant.truths) c.in_ok-soon-in-All.ensures.1);
    }

pub truth_after-returns-in_err-soon-in-All : goal.truth_after-returns-in_err-soon-in-All
truth_after-returns-in_err-soon-in-All g t c =
    let p = err_from_is_err_and c.from_residual.result c.from_residual.ensures.1 in
    let e = next_member (condition_of g.Q.Exact.value) c.deref-member-items.result.now c.all.member-index c.member-item.result c.all-test.true c.member-item.is in
    let w = all_view g.Q.Exact.value c.args.cond.now c.in-All.members c.deref-member-items.result.now c.in-All.is c.deref-member-items.ensures.value in
    rw (p.1, p.2) (subst (λ (k : Condition). FirstFailing g.Q.Exact.fits (live_asks c.args.before k c.args.state.now c.args.rates.now) (cond_stop_of g.Q.Exact.value c.in_err-soon-in-All.field-0.0)) w (walking_stop _ _ _ true _ _ _ _ _ (rw e at c.all.invariant.walking) _ c.in_err-soon-in-All.ensures))

pub truth_after-returns-after-all : goal.truth_after-returns-after-all
truth_after-returns-after-all g t c =
    let e = no_member (condition_of g.Q.Exact.value) c.deref-member-items.result.now c.all.member-index c.all-test.false in
    let w = all_view g.Q.Exact.value c.args.cond.now c.in-All.members c.deref-member-items.result.now c.in-All.is c.deref-member-items.ensures.value in
    subst (λ (k : Condition). AllPass g.Q.Exact.fits (live_asks c.args.before k c.args.state.now c.args.rates.now) × TruthAfter c.args.state.now c.args.rates.now k c.all.truth) w (walking_end _ _ _ true _ _ _ (rw e at c.all.invariant.walking), truths_end _ true _ _ _ (rw e at c.all.invariant.truths))

pub truth_after-any-init : goal.truth_after-any-init
truth_after-any-init g t c =
    let w = any_view g.Q.Exact.value c.args.cond.now c.in-Any.members c.deref-member-items-in-Any.result.now c.in-Any.is c.deref-member-items-in-Any.ensures.value in
    record {
      walking = walking_start _ _ _ false _ _ (subst (Fits _ _) (sym w) c.requires.fits) (undecided_any g.Q.Exact.value c.args.cond.now c.in-Any.members c.deref-member-items-in-Any.result.now _ _ c.in-Any.is c.deref-member-items-in-Any.ensures.value c.in_default.ensures) (subst (λ (k : Condition). c.args.before + comparisons k < 2 ^ 32) (sym w) c.requires.few);
      truths = truths_start _ false _ _;
    }

pub truth_after-any-preserved : goal.truth_after-any-preserved
truth_after-any-preserved g t c =
    let e = next_member (condition_of g.Q.Exact.value) c.deref-member-items-in-Any.result.now c.any.member-index c.member-item-in-any.result c.any-test.true c.member-item-in-any.is in
    record {
      walking = walking_next _ _ _ false _ _ _ _ _ (rw e at c.any.invariant.walking) _ c.comparisons-in-any.ensures c.in_ok-soon-in-Any.ensures.0;
      truths = rw c.join-truth-in-any.ensures (truths_next _ false _ _ _ _ _ _ (rw e at c.any.invariant.truths) c.in_ok-soon-in-Any.ensures.1);
    }

pub truth_after-returns-in_err-soon-in-Any : goal.truth_after-returns-in_err-soon-in-Any
truth_after-returns-in_err-soon-in-Any g t c =
    let p = err_from_is_err_and c.from_residual-in_err-soon-in-Any.result c.from_residual-in_err-soon-in-Any.ensures.1 in
    let e = next_member (condition_of g.Q.Exact.value) c.deref-member-items-in-Any.result.now c.any.member-index c.member-item-in-any.result c.any-test.true c.member-item-in-any.is in
    let w = any_view g.Q.Exact.value c.args.cond.now c.in-Any.members c.deref-member-items-in-Any.result.now c.in-Any.is c.deref-member-items-in-Any.ensures.value in
    rw (p.1, p.2) (subst (λ (k : Condition). FirstFailing g.Q.Exact.fits (live_asks c.args.before k c.args.state.now c.args.rates.now) (cond_stop_of g.Q.Exact.value c.in_err-soon-in-Any.field-0.0)) w (walking_stop _ _ _ false _ _ _ _ _ (rw e at c.any.invariant.walking) _ c.in_err-soon-in-Any.ensures))

pub truth_after-returns-after-any : goal.truth_after-returns-after-any
truth_after-returns-after-any g t c =
    let e = no_member (condition_of g.Q.Exact.value) c.deref-member-items-in-Any.result.now c.any.member-index c.any-test.false in
    let w = any_view g.Q.Exact.value c.args.cond.now c.in-Any.members c.deref-member-items-in-Any.result.now c.in-Any.is c.deref-member-items-in-Any.ensures.value in
    subst (λ (k : Condition). AllPass g.Q.Exact.fits (live_asks c.args.before k c.args.state.now c.args.rates.now) × TruthAfter c.args.state.now c.args.rates.now k c.any.truth) w (walking_end _ _ _ false _ _ _ (rw e at c.any.invariant.walking), truths_end _ false _ _ _ (rw e at c.any.invariant.truths))

pub truth_after-returns-in-Atom : goal.truth_after-returns-in-Atom
truth_after-returns-in-Atom g t c = rw c.in-Atom.is (pass_none _, truth_atom _ _ _ _ _ _ c.atom.ensures c.signed.ensures)

pub soon-returns-in-Atom : goal.soon-returns-in-Atom
soon-returns-in-Atom g t c = rw c.in-Atom.is (pass_none _, truth_atom _ _ _ _ _ _ c.atom.ensures c.signed.ensures)
