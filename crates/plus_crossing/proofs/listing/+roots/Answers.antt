use Rattle.std.proofs.Common.{◌≡◌, ◌<◌, ◌+◌, ◌^◌, ◌++◌, true, false, map, subst, sym}
use Rattle.std.proofs.lemmas.Result.{err_from_is_err_and}
use Rattle.plus_model.specs.Terms.{Condition}
use Rattle.plus_state.specs.View.{condition_of}
use Rattle.plus_state.specs.Fits.{Fits, comparisons}
use Rattle.plus_state.proofs.TestsLemmas.{next_member, no_member, all_view, any_view, undecided_all, undecided_any}
use Rattle.plus_crossing.specs.Asked.{AllPass}
use Rattle.plus_crossing.specs.Next.{cross_asks}
use Rattle.plus_crossing.specs.Listed.{live_roots, RootsStops}
use Rattle.plus_crossing.proofs.Walking.{walking_start, walking_next, walking_stop, walking_end}
use Rattle.plus_crossing.proofs.RootLists.{rooting_start, rooting_next, rooting_end, stops_of}
use Rattle.plus_crossing.proofs.listing.+roots.Goals as goal

pub roots_from-all-init : goal.roots_from-all-init
roots_from-all-init g t c =
    let w = all_view g.Q.Exact.value c.args.cond.now c.in-All.members c.deref-member-items.result.now c.in-All.is c.deref-member-items.ensures.value in
    record {
      walking = walking_start _ _ _ true _ _ (subst (Fits _ _) (sym w) c.requires.fits) (undecided_all g.Q.Exact.value c.args.cond.now c.in-All.members c.deref-member-items.result.now _ _ c.in-All.is c.deref-member-items.ensures.value c.in_default.ensures) (subst (λ (k : Condition). c.args.before + comparisons k < 2 ^ 32) (sym w) c.requires.few);
      rooting = rooting_start _ _ true _ _;
    }

pub roots_from-all-preserved : goal.roots_from-all-preserved
roots_from-all-preserved g t c =
    let e = next_member (condition_of g.Q.Exact.value) c.deref-member-items.result.now c.all.member-index c.member-item.result c.all-test.true c.member-item.is in
    let h = rw e at c.all.invariant.walking in
    record {
      walking = walking_next _ _ _ true _ _ _ _ _ h _ c.comparisons-number.ensures c.in_ok-roots_of-in-All.ensures.0;
      rooting = rooting_next _ _ true _ _ _ _ _ _ (rw e at c.all.invariant.rooting) h.undecided c.in_ok-roots_of-in-All.ensures.1;
    }

pub roots_from-returns-in_err-roots_of-in-All : goal.roots_from-returns-in_err-roots_of-in-All
roots_from-returns-in_err-roots_of-in-All g t c =
    let p = err_from_is_err_and c.from_residual.result c.from_residual.ensures.1 in
    let e = next_member (condition_of g.Q.Exact.value) c.deref-member-items.result.now c.all.member-index c.member-item.result c.all-test.true c.member-item.is in
    let w = all_view g.Q.Exact.value c.args.cond.now c.in-All.members c.deref-member-items.result.now c.in-All.is c.deref-member-items.ensures.value in
    rw (p.1, p.2) (subst (λ (k : Condition). RootsStops g.Q.Exact.value g.Q.Exact.fits (cross_asks c.args.before k c.args.state.now c.args.rates.now) c.in_err-roots_of-in-All.field-0.0) w (stops_of _ _ _ _ _ (walking_stop _ _ _ true _ _ _ _ _ (rw e at c.all.invariant.walking)) c.in_err-roots_of-in-All.ensures))

pub roots_from-returns-after-all : goal.roots_from-returns-after-all
roots_from-returns-after-all g t c =
    let e = no_member (condition_of g.Q.Exact.value) c.deref-member-items.result.now c.all.member-index c.all-test.false in
    let w = all_view g.Q.Exact.value c.args.cond.now c.in-All.members c.deref-member-items.result.now c.in-All.is c.deref-member-items.ensures.value in
    subst (λ (k : Condition). AllPass g.Q.Exact.fits (cross_asks c.args.before k c.args.state.now c.args.rates.now) × (map g.Q.Exact.value c.all.into.items ≡ map g.Q.Exact.value c.args.into.now.items ++ live_roots k c.args.state.now c.args.rates.now)) w (walking_end _ _ _ true _ _ _ (rw e at c.all.invariant.walking), rooting_end _ _ true _ _ _ (rw e at c.all.invariant.rooting))

pub roots_from-any-init : goal.roots_from-any-init
roots_from-any-init g t c =
    let w = any_view g.Q.Exact.value c.args.cond.now c.in-Any.members c.deref-member-items-in-Any.result.now c.in-Any.is c.deref-member-items-in-Any.ensures.value in
    record {
      walking = walking_start _ _ _ false _ _ (subst (Fits _ _) (sym w) c.requires.fits) (undecided_any g.Q.Exact.value c.args.cond.now c.in-Any.members c.deref-member-items-in-Any.result.now _ _ c.in-Any.is c.deref-member-items-in-Any.ensures.value c.in_default.ensures) (subst (λ (k : Condition). c.args.before + comparisons k < 2 ^ 32) (sym w) c.requires.few);
      rooting = rooting_start _ _ false _ _;
    }

pub roots_from-any-preserved : goal.roots_from-any-preserved
roots_from-any-preserved g t c =
    let e = next_member (condition_of g.Q.Exact.value) c.deref-member-items-in-Any.result.now c.any.member-index c.member-item-in-any.result c.any-test.true c.member-item-in-any.is in
    let h = rw e at c.any.invariant.walking in
    record {
      walking = walking_next _ _ _ false _ _ _ _ _ h _ c.comparisons-number-in-any.ensures c.in_ok-roots_of-in-Any.ensures.0;
      rooting = rooting_next _ _ false _ _ _ _ _ _ (rw e at c.any.invariant.rooting) h.undecided c.in_ok-roots_of-in-Any.ensures.1;
    }

pub roots_from-returns-in_err-roots_of-in-Any : goal.roots_from-returns-in_err-roots_of-in-Any
roots_from-returns-in_err-roots_of-in-Any g t c =
    let p = err_from_is_err_and c.from_residual-in_err-roots_of-in-Any.result c.from_residual-in_err-roots_of-in-Any.ensures.1 in
    let e = next_member (condition_of g.Q.Exact.value) c.deref-member-items-in-Any.result.now c.any.member-index c.member-item-in-any.result c.any-test.true c.member-item-in-any.is in
    let w = any_view g.Q.Exact.value c.args.cond.now c.in-Any.members c.deref-member-items-in-Any.result.now c.in-Any.is c.deref-member-items-in-Any.ensures.value in
    rw (p.1, p.2) (subst (λ (k : Condition). RootsStops g.Q.Exact.value g.Q.Exact.fits (cross_asks c.args.before k c.args.state.now c.args.rates.now) c.in_err-roots_of-in-Any.field-0.0) w (stops_of _ _ _ _ _ (walking_stop _ _ _ false _ _ _ _ _ (rw e at c.any.invariant.walking)) c.in_err-roots_of-in-Any.ensures))

pub roots_from-returns-after-any : goal.roots_from-returns-after-any
roots_from-returns-after-any g t c =
    let e = no_member (condition_of g.Q.Exact.value) c.deref-member-items-in-Any.result.now c.any.member-index c.any-test.false in
    let w = any_view g.Q.Exact.value c.args.cond.now c.in-Any.members c.deref-member-items-in-Any.result.now c.in-Any.is c.deref-member-items-in-Any.ensures.value in
    subst (λ (k : Condition). AllPass g.Q.Exact.fits (cross_asks c.args.before k c.args.state.now c.args.rates.now) × (map g.Q.Exact.value c.any.into.items ≡ map g.Q.Exact.value c.args.into.now.items ++ live_roots k c.args.state.now c.args.rates.now)) w (walking_end _ _ _ false _ _ _ (rw e at c.any.invariant.walking), rooting_end _ _ false _ _ _ (rw e at c.any.invariant.rooting))
