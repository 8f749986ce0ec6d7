use Rattle.std.proofs.Common.{◌≡◌, ◌∙◌, subst}
use Rattle.std.specs.Prelude.{Some, slice_get}
use Rattle.std.specs.List.{position_or_len}
use Rattle.std.specs.Str.{bytes_eq}
use Rattle.plus_types.specs.Faults.{problem_context, action_names}
use Rattle.plus_expansion.specs.Calls.{bound_by}
use Rattle.plus_ground.proofs.CallsLemmas.{is_instance, instance_fits}
use Rattle.plus_ground.proofs.expansion.instance.Goals as goal

pub returns-clause-called : goal.returns-clause-called
returns-clause-called g c =
    let d = c.args.numbering.now.typed.now.domain in
    let p = c.args.numbering.now.typed.now.problem in
    let k = problem_context d p in
    is_instance g.Q.Exact.fits d p c.args.call.now.name c.args.call.now.args c.in-Some.schema.now _ c.in_ok-bound.bound c.is_small.result _
    (subst (λ n. slice_get d.actions (position_or_len (bytes_eq n) (action_names d)) ≡ Some c.in-Some.schema.now) c.bytes.ensures c.in-Some.ensures)
    (c.in_ok-bound.ensures ∙ (λ j. bound_by k (c.as_slice.ensures j) (c.as_slice-2.ensures j) (c.new-env.ensures j)))
    c.if-not-bound.false c.is_small.ensures c.if-not-is_small.false c.in-Ok.ensures c.in_ok-action.ensures

pub returns-clause-fits : goal.returns-clause-fits
returns-clause-fits g c =
    let d = c.args.numbering.now.typed.now.domain in
    let p = c.args.numbering.now.typed.now.problem in
    let k = problem_context d p in
    instance_fits d p c.args.call.now.name c.args.call.now.args c.in-Some.schema.now _ c.in_ok-bound.bound _ c.args.numbering.now.typed.now.well_typed
    (subst (λ n. slice_get d.actions (position_or_len (bytes_eq n) (action_names d)) ≡ Some c.in-Some.schema.now) c.bytes.ensures c.in-Some.ensures)
    (c.in_ok-bound.ensures ∙ (λ j. bound_by k (c.as_slice.ensures j) (c.as_slice-2.ensures j) (c.new-env.ensures j)))
    c.if-not-bound.false c.in_ok-action.ensures
