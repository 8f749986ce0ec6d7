use Rattle.plus_state.specs.View.{condition_of}
use Rattle.plus_state.proofs.TestsLemmas.{next_member, no_member}
use Rattle.plus_cut.proofs.LosingLemmas.{keeping_start, keeping_next, keeping_end}
use Rattle.plus_cut.proofs.losing.keep_members.Goals as goal

pub members-init : goal.members-init
members-init g c = keeping_start _ _ _

pub members-preserved : goal.members-preserved
members-preserved g c =
    keeping_next _ _ _ _ _ _ _ _
    (next_member (condition_of g.Q.Exact.value) c.args.members.now c.members.member-index c.member-item.result c.members-test.true c.member-item.is)
    c.members.invariant c.in_ok-keep.ensures

pub returns : goal.returns
returns g c =
    keeping_end _ _ _ _ _ (no_member (condition_of g.Q.Exact.value) c.args.members.now c.members.member-index c.members-test.false) c.members.invariant
