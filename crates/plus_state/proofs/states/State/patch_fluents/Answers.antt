use Rattle.std.proofs.Common.{ap, refl, ◌∙◌}
use Rattle.plus_state.proofs.TestsLemmas.{next_member, no_member}
use Rattle.plus_state.specs.ChangesView.{fluent_change}
use Rattle.plus_model.specs.Terms.{State}
use Rattle.plus_state.proofs.PatchLemmas.{patching_start, patching_inside, patching_next, patching_end, only_fluents}
use Rattle.plus_state.proofs.states.State.patch_fluents.Goals as goal

pub each-init : goal.each-init
each-init g c = record { rest = refl; patching = patching_start _ _ c.requires }

pub give-requires : goal.give-requires
give-requires g c =
    let e = next_member (fluent_change g.Q.Exact.value) c.args.changes.now c.each.change-index c.change-item.result c.each-test.true c.change-item.is in
    patching_inside _ _ _ _ _ (rw e at c.each.invariant.patching)

pub each-preserved : goal.each-preserved
each-preserved g c =
    let e = next_member (fluent_change g.Q.Exact.value) c.args.changes.now c.each.change-index c.change-item.result c.each-test.true c.change-item.is in
    record {
      rest = only_fluents c.give.new.self c.each.self c.args.self.now _ c.give.ensures c.each.invariant.rest;
      patching = patching_next _ _ _ _ _ _ (rw e at c.each.invariant.patching) (ap (λ (s : State). s.fluents) c.give.ensures);
    }

pub returns : goal.returns
returns g c =
    let p = patching_end _ _ _ (rw (no_member (fluent_change g.Q.Exact.value) c.args.changes.now c.each.change-index c.each-test.false) at c.each.invariant.patching) in
    c.each.invariant.rest ∙ ap (λ xs. record c.args.self.now { fluents = xs }) p
