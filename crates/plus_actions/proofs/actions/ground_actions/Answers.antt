use Rattle.std.proofs.Common.{◌∙◌, ap}
use Rattle.plus_tree.specs.declared.trees.Domain.{Domain}
use Rattle.plus_state.specs.View.{action_of}
use Rattle.plus_actions.proofs.CountingLemmas.{few}
use Rattle.plus_actions.proofs.InstancesLemmas.{items_fit, items_most}
use Rattle.plus_actions.proofs.MeantLemmas.{all_meant}
use Rattle.plus_actions.proofs.actions.ground_actions.Goals as goal

pub actions-requires : goal.actions-requires
actions-requires g c = rw (c.as_slice-schemas.ensures, c.domain.ensures) c.in_ok-test.ensures.literals

pub returns-clause-are : goal.returns-clause-are
returns-clause-are g c =
    let t = c.args.numbering.now.typed.now in
    all_meant t.domain t.problem _ _ t.well_typed (c.as_slice-schemas.ensures ∙ ap (λ (d : Domain). d.actions) c.domain.ensures) c.in_ok-actions.ensures

pub returns-clause-fit : goal.returns-clause-fit
returns-clause-fit g c =
    let t = c.args.numbering.now.typed.now in
    items_fit (action_of g.Q.Exact.value) c.in_ok-actions.field-0.items t.domain t.problem t.well_typed
    (all_meant t.domain t.problem _ _ t.well_typed (c.as_slice-schemas.ensures ∙ ap (λ (d : Domain). d.actions) c.domain.ensures) c.in_ok-actions.ensures)

pub returns-clause-few : goal.returns-clause-few
returns-clause-few g c =
    let t = c.args.numbering.now.typed.now in
    items_most (action_of g.Q.Exact.value) c.in_ok-actions.field-0.items t.domain t.problem _
    (c.as_slice-schemas.ensures ∙ ap (λ (d : Domain). d.actions) c.domain.ensures) c.in_ok-actions.ensures (few t.domain t.problem c.in_ok-test.ensures.counts)

pub returns-clause-limits : goal.returns-clause-limits
returns-clause-limits g c = c.in_ok-test.ensures
