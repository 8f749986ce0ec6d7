use Rattle.std.proofs.Common.{true, map, length, drop, ◌+◌, subst}
use Rattle.plus_model.specs.Terms.{Condition}
use Rattle.std.specs.Prelude.{List}
use Rattle.plus_state.specs.View.{condition_of}
use Rattle.plus_state.specs.Tests.{joined}
use Rattle.plus_state.specs.Fits.{Fits}
use Rattle.plus_state.proofs.TestsLemmas.{next_member, fits_head, fits_tail}
use Rattle.plus_planner.proofs.goals.count.Goals as goal

pub missing-requires : goal.missing-requires
missing-requires g c =
    let v = g.Q.Exact.value in
    let s = c.args.state.now in
    let e = next_member (condition_of v) c.args.members.now c.members.member-index c.member-item.result c.members-test.true c.member-item.is in
    fits_head true (length s.atoms) (length s.fluents) (condition_of v c.member-item.result) (joined true (map (condition_of v) (drop (c.members.member-index + 1) c.args.members.now)))
    (subst (λ (cs : List Condition). Fits (length s.atoms) (length s.fluents) (joined true cs)) e c.members.invariant)

pub members-preserved : goal.members-preserved
members-preserved g c =
    let v = g.Q.Exact.value in
    let s = c.args.state.now in
    let e = next_member (condition_of v) c.args.members.now c.members.member-index c.member-item.result c.members-test.true c.member-item.is in
    fits_tail true (length s.atoms) (length s.fluents) (condition_of v c.member-item.result) (joined true (map (condition_of v) (drop (c.members.member-index + 1) c.args.members.now)))
    (subst (λ (cs : List Condition). Fits (length s.atoms) (length s.fluents) (joined true cs)) e c.members.invariant)
