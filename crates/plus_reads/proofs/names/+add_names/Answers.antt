use Rattle.std.proofs.Common.{true, false}
use Rattle.plus_state.specs.View.{condition_of}
use Rattle.plus_state.proofs.TestsLemmas.{no_member, all_view, any_view}
use Rattle.plus_reads.proofs.Naming.{atoms_end, fluents_end}
use Rattle.plus_reads.proofs.names.+add_names.Goals as goal

pub returns-after-all-clause-atoms : goal.returns-after-all-clause-atoms
returns-after-all-clause-atoms g t c =
    let e = no_member (condition_of g.Q.Exact.value) c.deref-member-items.result.now c.all.member-index c.all-test.false in
    let w = all_view g.Q.Exact.value c.args.cond.now c.in-All.members c.deref-member-items.result.now c.in-All.is c.deref-member-items.ensures.value in
    atoms_end true _ _ _ _ _ _ (rw e at c.all.invariant) w

pub returns-after-all-clause-fluents : goal.returns-after-all-clause-fluents
returns-after-all-clause-fluents g t c =
    let e = no_member (condition_of g.Q.Exact.value) c.deref-member-items.result.now c.all.member-index c.all-test.false in
    let w = all_view g.Q.Exact.value c.args.cond.now c.in-All.members c.deref-member-items.result.now c.in-All.is c.deref-member-items.ensures.value in
    fluents_end true _ _ _ _ _ _ (rw e at c.all.invariant) w

pub returns-after-any-clause-atoms : goal.returns-after-any-clause-atoms
returns-after-any-clause-atoms g t c =
    let e = no_member (condition_of g.Q.Exact.value) c.deref-member-items-in-Any.result.now c.any.member-index c.any-test.false in
    let w = any_view g.Q.Exact.value c.args.cond.now c.in-Any.members c.deref-member-items-in-Any.result.now c.in-Any.is c.deref-member-items-in-Any.ensures.value in
    atoms_end false _ _ _ _ _ _ (rw e at c.any.invariant) w

pub returns-after-any-clause-fluents : goal.returns-after-any-clause-fluents
returns-after-any-clause-fluents g t c =
    let e = no_member (condition_of g.Q.Exact.value) c.deref-member-items-in-Any.result.now c.any.member-index c.any-test.false in
    let w = any_view g.Q.Exact.value c.args.cond.now c.in-Any.members c.deref-member-items-in-Any.result.now c.in-Any.is c.deref-member-items-in-Any.ensures.value in
    fluents_end false _ _ _ _ _ _ (rw e at c.any.invariant) w
