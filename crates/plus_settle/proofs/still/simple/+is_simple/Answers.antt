use Rattle.std.proofs.Common.{true, false}
use Rattle.plus_state.specs.View.{condition_of}
use Rattle.plus_state.proofs.TestsLemmas.{no_member, all_view, any_view}
use Rattle.plus_settle.proofs.StillLemmas.Asking.{asking_start, asking_end}
use Rattle.plus_settle.proofs.still.simple.+is_simple.Goals as goal

pub all-init : goal.all-init
all-init g t c =
    let w = all_view g.Q.Exact.value c.args.cond.now c.in-All.members c.deref-member-items.result.now c.in-All.is c.deref-member-items.ensures.value in
    asking_start true _ _ _ _ w c.requires

pub returns-after-all : goal.returns-after-all
returns-after-all g t c =
    let e = no_member (condition_of g.Q.Exact.value) c.deref-member-items.result.now c.all.member-index c.all-test.false in
    let w = all_view g.Q.Exact.value c.args.cond.now c.in-All.members c.deref-member-items.result.now c.in-All.is c.deref-member-items.ensures.value in
    asking_end true _ _ _ _ _ w (rw e at c.all.invariant)

pub any-init : goal.any-init
any-init g t c =
    let w = any_view g.Q.Exact.value c.args.cond.now c.in-Any.members c.deref-member-items-in-Any.result.now c.in-Any.is c.deref-member-items-in-Any.ensures.value in
    asking_start false _ _ _ _ w c.requires

pub returns-after-any : goal.returns-after-any
returns-after-any g t c =
    let e = no_member (condition_of g.Q.Exact.value) c.deref-member-items-in-Any.result.now c.any.member-index c.any-test.false in
    let w = any_view g.Q.Exact.value c.args.cond.now c.in-Any.members c.deref-member-items-in-Any.result.now c.in-Any.is c.deref-member-items-in-Any.ensures.value in
    asking_end false _ _ _ _ _ w (rw e at c.any.invariant)
