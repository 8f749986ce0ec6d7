use Rattle.std.proofs.Common.{◌<◌, ◌+◌, ◌^◌, true, false, subst, sym}
use Rattle.std.proofs.lemmas.Result.{err_from_is_err_and}
use Rattle.std.specs.Prelude.{option_map}
use Rattle.plus_model.specs.Terms.{Condition}
use Rattle.plus_state.specs.View.{condition_of}
use Rattle.plus_state.specs.Fits.{Fits, comparisons}
use Rattle.plus_state.proofs.TestsLemmas.{next_member, no_member, all_view, any_view, undecided_all, undecided_any}
use Rattle.plus_crossing.specs.Asked.{AllPass, FirstFailing, cond_stop_of}
use Rattle.plus_crossing.specs.Next.{cross_asks, LiveRoot, IsNext}
use Rattle.plus_crossing.proofs.Walking.{walking_start, walking_next, walking_stop, walking_end, nexts_start, nexts_next, nexts_end}
use Rattle.plus_crossing.proofs.crossings.+crossing_from.Goals as goal

pub all-init : goal.all-init
all-init g t c =
    let w = all_view g.Q.Exact.value c.args.cond.now c.in-All.members c.deref-member-items.result.now c.in-All.is c.deref-member-items.ensures.value in
    record {
      walking = walking_start _ _ _ true _ _ (subst (Fits _ _) (sym w) c.requires.fits) (undecided_all g.Q.Exact.value c.args.cond.now c.in-All.members c.deref-member-items.result.now _ _ c.in-All.is c.deref-member-items.ensures.value c.in_default.ensures) (subst (λ (k : Condition). c.args.before + comparisons k < 2 ^ 32) (sym w) c.requires.few);
      nexts = nexts_start _ _ true _ _ _;
    }

pub all-preserved : goal.all-preserved
all-preserved g t c =
    let e = next_member (condition_of g.Q.Exact.value) c.deref-member-items.result.now c.all.member-index c.member-item.result c.all-test.true c.member-item.is in
    let h = rw e at c.all.invariant.walking in
    record {
      walking = walking_next _ _ _ true _ _ _ _ _ h _ c.comparisons.ensures c.in_ok-crossing_from-in-All.ensures.0;
      nexts = nexts_next _ _ true _ _ _ _ _ _ _ _ (rw e at c.all.invariant.nexts) h.undecided c.in_ok-crossing_from-in-All.ensures.1 c.lesser-least.ensures;
    }

pub returns-in_err-crossing_from-in-All : goal.returns-in_err-crossing_from-in-All
returns-in_err-crossing_from-in-All g t c =
    let p = err_from_is_err_and c.from_residual.result c.from_residual.ensures.1 in
    let e = next_member (condition_of g.Q.Exact.value) c.deref-member-items.result.now c.all.member-index c.member-item.result c.all-test.true c.member-item.is in
    let w = all_view g.Q.Exact.value c.args.cond.now c.in-All.members c.deref-member-items.result.now c.in-All.is c.deref-member-items.ensures.value in
    rw (p.1, p.2) (subst (λ (k : Condition). FirstFailing g.Q.Exact.fits (cross_asks c.args.before k c.args.state.now c.args.rates.now) (cond_stop_of g.Q.Exact.value c.in_err-crossing_from-in-All.field-0.0)) w (walking_stop _ _ _ true _ _ _ _ _ (rw e at c.all.invariant.walking) _ c.in_err-crossing_from-in-All.ensures))

pub returns-after-all : goal.returns-after-all
returns-after-all g t c =
    let e = no_member (condition_of g.Q.Exact.value) c.deref-member-items.result.now c.all.member-index c.all-test.false in
    let w = all_view g.Q.Exact.value c.args.cond.now c.in-All.members c.deref-member-items.result.now c.in-All.is c.deref-member-items.ensures.value in
    subst (λ (k : Condition). AllPass g.Q.Exact.fits (cross_asks c.args.before k c.args.state.now c.args.rates.now) × IsNext (LiveRoot k c.args.state.now c.args.rates.now) (g.Q.Exact.value c.args.after) (g.Q.Exact.value c.args.until) (option_map g.Q.Exact.value c.all.least)) w (walking_end _ _ _ true _ _ _ (rw e at c.all.invariant.walking), nexts_end _ _ true _ _ _ _ (rw e at c.all.invariant.nexts))

pub any-init : goal.any-init
any-init g t c =
    let w = any_view g.Q.Exact.value c.args.cond.now c.in-Any.members c.deref-member-items-in-Any.result.now c.in-Any.is c.deref-member-items-in-Any.ensures.value in
    record {
      walking = walking_start _ _ _ false _ _ (subst (Fits _ _) (sym w) c.requires.fits) (undecided_any g.Q.Exact.value c.args.cond.now c.in-Any.members c.deref-member-items-in-Any.result.now _ _ c.in-Any.is c.deref-member-items-in-Any.ensures.value c.in_default.ensures) (subst (λ (k : Condition). c.args.before + comparisons k < 2 ^ 32) (sym w) c.requires.few);
      nexts = nexts_start _ _ false _ _ _;
    }

pub any-preserved : goal.any-preserved
any-preserved g t c =
    let e = next_member (condition_of g.Q.Exact.value) c.deref-member-items-in-Any.result.now c.any.member-index c.member-item-in-any.result c.any-test.true c.member-item-in-any.is in
    let h = rw e at c.any.invariant.walking in
    record {
      walking = walking_next _ _ _ false _ _ _ _ _ h _ c.comparisons-in-any.ensures c.in_ok-crossing_from-in-Any.ensures.0;
      nexts = nexts_next _ _ false _ _ _ _ _ _ _ _ (rw e at c.any.invariant.nexts) h.undecided c.in_ok-crossing_from-in-Any.ensures.1 c.lesser-least-in-any.ensures;
    }

pub returns-in_err-crossing_from-in-Any : goal.returns-in_err-crossing_from-in-Any
returns-in_err-crossing_from-in-Any g t c =
    let p = err_from_is_err_and c.from_residual-in_err-crossing_from-in-Any.result c.from_residual-in_err-crossing_from-in-Any.ensures.1 in
    let e = next_member (condition_of g.Q.Exact.value) c.deref-member-items-in-Any.result.now c.any.member-index c.member-item-in-any.result c.any-test.true c.member-item-in-any.is in
    let w = any_view g.Q.Exact.value c.args.cond.now c.in-Any.members c.deref-member-items-in-Any.result.now c.in-Any.is c.deref-member-items-in-Any.ensures.value in
    rw (p.1, p.2) (subst (λ (k : Condition). FirstFailing g.Q.Exact.fits (cross_asks c.args.before k c.args.state.now c.args.rates.now) (cond_stop_of g.Q.Exact.value c.in_err-crossing_from-in-Any.field-0.0)) w (walking_stop _ _ _ false _ _ _ _ _ (rw e at c.any.invariant.walking) _ c.in_err-crossing_from-in-Any.ensures))

pub returns-after-any : goal.returns-after-any
returns-after-any g t c =
    let e = no_member (condition_of g.Q.Exact.value) c.deref-member-items-in-Any.result.now c.any.member-index c.any-test.false in
    let w = any_view g.Q.Exact.value c.args.cond.now c.in-Any.members c.deref-member-items-in-Any.result.now c.in-Any.is c.deref-member-items-in-Any.ensures.value in
    subst (λ (k : Condition). AllPass g.Q.Exact.fits (cross_asks c.args.before k c.args.state.now c.args.rates.now) × IsNext (LiveRoot k c.args.state.now c.args.rates.now) (g.Q.Exact.value c.args.after) (g.Q.Exact.value c.args.until) (option_map g.Q.Exact.value c.any.least)) w (walking_end _ _ _ false _ _ _ (rw e at c.any.invariant.walking), nexts_end _ _ false _ _ _ _ (rw e at c.any.invariant.nexts))
