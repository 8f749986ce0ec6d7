use Rattle.std.proofs.Common.{true, false, map, refl, sym, ◌∙◌}
use Rattle.plus_state.specs.View.{condition_of}
use Rattle.plus_state.proofs.TestsLemmas.{next_member, no_member}
use Rattle.plus_possible.specs.Possible.{may_by}
use Rattle.plus_possible.proofs.MayLemmas.{member_on, member_off, members_end, of_all, of_any, of_atom, of_compare}
use Rattle.plus_possible.proofs.possible.+may_hold.Goals as goal

pub all-init : goal.all-init
all-init g t c = refl

pub all-preserved : goal.all-preserved
all-preserved g t c =
    let e = next_member (condition_of g.Q.Exact.value) c.deref-member-items.result.now c.all.member-index c.member-item.result c.all-test.true c.member-item.is in
    member_on (may_by c.args.marks.now c.args.state.now) true _ _ (map (condition_of g.Q.Exact.value) c.deref-member-items.result.now) _ e c.all.invariant (sym c.may_hold.ensures ∙ c.if-not-may_hold.false)

pub returns-then-not-may_hold : goal.returns-then-not-may_hold
returns-then-not-may_hold g t c =
    let e = next_member (condition_of g.Q.Exact.value) c.deref-member-items.result.now c.all.member-index c.member-item.result c.all-test.true c.member-item.is in
    of_all (may_by c.args.marks.now c.args.state.now) g.Q.Exact.value c.args.cond.now c.in-All.members c.deref-member-items.result.now _ c.in-All.is c.deref-member-items.ensures.value
    (member_off (may_by c.args.marks.now c.args.state.now) true _ _ (map (condition_of g.Q.Exact.value) c.deref-member-items.result.now) _ e c.all.invariant (sym c.may_hold.ensures ∙ c.if-not-may_hold.true))

pub returns-after-all : goal.returns-after-all
returns-after-all g t c =
    let e = no_member (condition_of g.Q.Exact.value) c.deref-member-items.result.now c.all.member-index c.all-test.false in
    of_all (may_by c.args.marks.now c.args.state.now) g.Q.Exact.value c.args.cond.now c.in-All.members c.deref-member-items.result.now _ c.in-All.is c.deref-member-items.ensures.value
    (members_end (may_by c.args.marks.now c.args.state.now) true _ (map (condition_of g.Q.Exact.value) c.deref-member-items.result.now) e c.all.invariant)

pub any-init : goal.any-init
any-init g t c = refl

pub any-preserved : goal.any-preserved
any-preserved g t c =
    let e = next_member (condition_of g.Q.Exact.value) c.deref-member-items-in-Any.result.now c.any.member-index c.member-item-in-any.result c.any-test.true c.member-item-in-any.is in
    member_on (may_by c.args.marks.now c.args.state.now) false _ _ (map (condition_of g.Q.Exact.value) c.deref-member-items-in-Any.result.now) _ e c.any.invariant (sym c.may_hold-in-any.ensures ∙ c.if-may_hold.false)

pub returns-then-may_hold : goal.returns-then-may_hold
returns-then-may_hold g t c =
    let e = next_member (condition_of g.Q.Exact.value) c.deref-member-items-in-Any.result.now c.any.member-index c.member-item-in-any.result c.any-test.true c.member-item-in-any.is in
    of_any (may_by c.args.marks.now c.args.state.now) g.Q.Exact.value c.args.cond.now c.in-Any.members c.deref-member-items-in-Any.result.now _ c.in-Any.is c.deref-member-items-in-Any.ensures.value
    (member_off (may_by c.args.marks.now c.args.state.now) false _ _ (map (condition_of g.Q.Exact.value) c.deref-member-items-in-Any.result.now) _ e c.any.invariant (sym c.may_hold-in-any.ensures ∙ c.if-may_hold.true))

pub returns-after-any : goal.returns-after-any
returns-after-any g t c =
    let e = no_member (condition_of g.Q.Exact.value) c.deref-member-items-in-Any.result.now c.any.member-index c.any-test.false in
    of_any (may_by c.args.marks.now c.args.state.now) g.Q.Exact.value c.args.cond.now c.in-Any.members c.deref-member-items-in-Any.result.now _ c.in-Any.is c.deref-member-items-in-Any.ensures.value
    (members_end (may_by c.args.marks.now c.args.state.now) false _ (map (condition_of g.Q.Exact.value) c.deref-member-items-in-Any.result.now) e c.any.invariant)

pub returns-in-Atom : goal.returns-in-Atom
returns-in-Atom g t c = of_atom (may_by c.args.marks.now c.args.state.now) g.Q.Exact.value c.args.cond.now c.in-Atom.atom c.in-Atom.positive _ c.in-Atom.is c.may_be.ensures

pub returns-in-Compare : goal.returns-in-Compare
returns-in-Compare g t c = of_compare (may_by c.args.marks.now c.args.state.now) g.Q.Exact.value c.args.cond.now _ _ _ _ c.in-Compare.is
