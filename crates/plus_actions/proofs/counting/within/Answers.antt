use Rattle.std.proofs.Common.{◌∙◌, ap}
use Rattle.std.proofs.lemmas.Result.{err_from_is_err_and}
use Rattle.plus_tree.specs.declared.trees.Domain.{Domain}
use Rattle.plus_actions.proofs.CountingLemmas.{too_many, both_counted}
use Rattle.plus_actions.proofs.counting.within.Goals as goal

pub returns-in_err-few : goal.returns-in_err-few
returns-in_err-few c =
    let t = c.args.numbering.now.typed.now in
    let p = err_from_is_err_and c.from_residual.result c.from_residual.ensures.1 in
    rw (p.1, p.2) (too_many t.domain t.problem c.as_slice-actions.result.now c.instances.result c.in_err-few.field-0.0
    (c.as_slice-actions.ensures ∙ ap (λ (d : Domain). d.actions) c.domain.ensures) c.instances.ensures c.in_err-few.ensures)

pub returns : goal.returns
returns c =
    let t = c.args.numbering.now.typed.now in
    both_counted t.domain t.problem c.as_slice-actions.result.now c.instances.result c.nodes.result c.few-2.result
    (c.as_slice-actions.ensures ∙ ap (λ (d : Domain). d.actions) c.domain.ensures) c.instances.ensures c.in_ok-few.ensures c.nodes.ensures c.few-2.ensures
