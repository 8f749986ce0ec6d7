use Rattle.std.proofs.Common.{refl, subst, ◌∙◌, map}
use Rattle.plus_state.specs.View.{condition_of, overflow_of}
use Rattle.plus_state.proofs.TestsLemmas.{next_member, all_view, any_view}
use Rattle.plus_replay.proofs.Members.{IsLeaf, any_leaf, leaf_first, leaf_untold, if_ok, if_err, left_start, left_next, left_found, left_untold}
use Rattle.plus_replay.proofs.unmet.member.+first_failing.Goals as goal

pub members-init : goal.members-init
members-init g t c =
    left_start _ _ _ _ _ _ (all_view g.Q.Exact.value c.args.cond.now c.in-All.members c.deref-member-items.result.now c.in-All.is c.deref-member-items.ensures.value) c.requires

pub members-preserved : goal.members-preserved
members-preserved g t c =
    let e = next_member (condition_of g.Q.Exact.value) c.deref-member-items.result.now c.members.member-index c.member-item.result c.members-test.true c.member-item.is in
    left_next _ _ _ _ _ _ _ (rw e at c.members.invariant) (rw c.in-Ok-None.field-0-is at c.in-Ok-None.ensures.first)

pub returns-in-Ok-Some-clause-first : goal.returns-in-Ok-Some-clause-first
returns-in-Ok-Some-clause-first g t c =
    let e = next_member (condition_of g.Q.Exact.value) c.deref-member-items.result.now c.members.member-index c.member-item.result c.members-test.true c.member-item.is in
    left_found _ _ _ _ _ _ _ (rw e at c.members.invariant) _ (rw c.in-Ok-Some.field-0-is at c.in-Ok-Some.ensures.first)

pub returns-in-Err-clause-untold : goal.returns-in-Err-clause-untold
returns-in-Err-clause-untold g t c =
    let e = next_member (condition_of g.Q.Exact.value) c.deref-member-items.result.now c.members.member-index c.member-item.result c.members-test.true c.member-item.is in
    left_untold _ _ _ _ _ _ _ (rw e at c.members.invariant) _ c.in-Err.ensures.untold

-- an `or` is its own only member

pub returns-in-Any-clause-first : goal.returns-in-Any-clause-first
returns-in-Any-clause-first g t c =
    let k = condition_of g.Q.Exact.value c.args.cond.now in
    let leaf : IsLeaf k = subst IsLeaf (any_view g.Q.Exact.value c.args.cond.now c.in-Any.field-0 c.in-Any.field-0.items c.in-Any.is refl) (any_leaf (map (condition_of g.Q.Exact.value) c.in-Any.field-0.items)) in
    if_ok c.itself.result _ _ (λ o e. e ∙ leaf_first k c.args.state.now leaf) c.itself.ensures.told

pub returns-in-Any-clause-untold : goal.returns-in-Any-clause-untold
returns-in-Any-clause-untold g t c =
    let k = condition_of g.Q.Exact.value c.args.cond.now in
    let leaf : IsLeaf k = subst IsLeaf (any_view g.Q.Exact.value c.args.cond.now c.in-Any.field-0 c.in-Any.field-0.items c.in-Any.is refl) (any_leaf (map (condition_of g.Q.Exact.value) c.in-Any.field-0.items)) in
    if_err c.itself.result _ _ (λ w u. leaf_untold g.Q.Exact.fits k c.args.state.now (overflow_of g.Q.Exact.value w) leaf u) c.itself.ensures.untold
