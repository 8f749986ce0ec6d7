use Rattle.std.proofs.Common.{◌≡◌, ap, sym, ◌∙◌, subst}
use Rattle.std.proofs.lemmas.Result.{err_from_is_err_and}
use Rattle.plus_model.specs.Terms.{State}
use Rattle.plus_steps.specs.Stepped.{Does}
use Rattle.plus_state.specs.Changes.{Changes, patched}
use Rattle.plus_state.specs.View.{problem_of, action_of}
use Rattle.plus_cascade.proofs.FiringLemmas.{after_fits}
use Rattle.plus_stepped.proofs.StepLemmas.{act_refused, act_told}
use Rattle.plus_stepped.proofs.steps.acted.Goals as goal

pub returns-in_err-changes-clause-told : goal.returns-in_err-changes-clause-told
returns-in_err-changes-clause-told g c =
    let a = action_of g.Q.Exact.value c.args.action.now in
    let s = c.args.state.now in
    let p = err_from_is_err_and c.from_residual.result c.from_residual.ensures.1 in
    rw (p.1, p.2) (act_refused g.Q.Exact.value g.Q.Exact.fits (problem_of g.Q.Exact.value c.args.ground.now) a s (λ (c' : Changes). Does a s (patched s c')) c.in_err-changes.field-0.0 c.in_err-changes.ensures.told)

pub cascade-requires : goal.cascade-requires
cascade-requires g c =
    let is = c.patch.ensures ∙ ap (λ (t : State). patched t c.in_ok-changes.changes) c.in_ok-after.ensures in
    record { state = after_fits _ _ c.args.state.now _ c.in_ok-changes.changes c.requires.state is }

pub returns-clause-told : goal.returns-clause-told
returns-clause-told g c =
    let a = action_of g.Q.Exact.value c.args.action.now in
    let s = c.args.state.now in
    let e : c.patch.new.self ≡ patched s c.in_ok-changes.changes = c.patch.ensures ∙ ap (λ (t : State). patched t c.in_ok-changes.changes) c.in_ok-after.ensures in
    act_told g.Q.Exact.value g.Q.Exact.fits (problem_of g.Q.Exact.value c.args.ground.now) a s c.patch.new.self
    c.in_ok-changes.ensures.told.pass (subst (λ (t : State). Does a s t) (sym e) c.in_ok-changes.ensures.told.does) c.cascade.result c.cascade.ensures.told
