use Rattle.std.proofs.Common.{◌<◌, ◌^◌, true, false, subst, sym, ap, ◌∙◌}
use Rattle.plus_model.specs.Terms.{Condition}
use Rattle.plus_state.specs.View.{condition_of}
use Rattle.plus_state.specs.Fits.{comparisons}
use Rattle.plus_state.proofs.TestsLemmas.{no_member, all_view, any_view}
use Rattle.plus_crossing.proofs.Walking.{counting_start, counting_end}
use Rattle.plus_crossing.proofs.counts.+comparisons.Goals as goal

pub counted-all-init : goal.counted-all-init
counted-all-init g t c =
    let w = all_view g.Q.Exact.value c.args.cond.now c.in-All.members c.deref-member-items.result.now c.in-All.is c.deref-member-items.ensures.value in
    counting_start true _ (subst (λ (k : Condition). comparisons k < 2 ^ 32) (sym w) c.requires)

pub counted-returns-after-all : goal.counted-returns-after-all
counted-returns-after-all g t c =
    let e = no_member (condition_of g.Q.Exact.value) c.deref-member-items.result.now c.all.member-index c.all-test.false in
    let w = all_view g.Q.Exact.value c.args.cond.now c.in-All.members c.deref-member-items.result.now c.in-All.is c.deref-member-items.ensures.value in
    counting_end true _ _ (rw e at c.all.invariant) ∙ ap comparisons w

pub counted-any-init : goal.counted-any-init
counted-any-init g t c =
    let w = any_view g.Q.Exact.value c.args.cond.now c.in-Any.members c.deref-member-items-in-Any.result.now c.in-Any.is c.deref-member-items-in-Any.ensures.value in
    counting_start false _ (subst (λ (k : Condition). comparisons k < 2 ^ 32) (sym w) c.requires)

pub counted-returns-after-any : goal.counted-returns-after-any
counted-returns-after-any g t c =
    let e = no_member (condition_of g.Q.Exact.value) c.deref-member-items-in-Any.result.now c.any.member-index c.any-test.false in
    let w = any_view g.Q.Exact.value c.args.cond.now c.in-Any.members c.deref-member-items-in-Any.result.now c.in-Any.is c.deref-member-items-in-Any.ensures.value in
    counting_end false _ _ (rw e at c.any.invariant) ∙ ap comparisons w
