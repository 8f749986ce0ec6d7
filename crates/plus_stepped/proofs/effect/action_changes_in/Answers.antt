use Rattle.std.proofs.Common.{◌≡◌, List, map, true, false, subst, ap, sym, ◌∙◌}
use Rattle.std.specs.Prelude.{Ok}
use Rattle.std.proofs.lemmas.Result.{err_from_is_err_and}
use Rattle.plus_model.specs.Terms.{Effect}
use Rattle.plus_model.specs.Value.{holds as truth_of}
use Rattle.plus_model.specs.Joint.{joint}
use Rattle.plus_state.specs.Changes.{patched}
use Rattle.plus_state.specs.Steps.{AllPass, joint_steps}
use Rattle.plus_state.specs.Stops.{StopIs}
use Rattle.plus_state.specs.View.{action_of, effect_of, overflow_of}
use Rattle.plus_steps.specs.Stepped.{Does}
use Rattle.plus_stepped.specs.Tests.{precondition}
use Rattle.plus_stepped.proofs.Actions.{condition_unfit, condition_fails, effects_pass, effects_told, no_action}
use Rattle.plus_stepped.proofs.effect.action_changes_in.Goals as goal

pub returns-in_err-holds-clause-told : goal.returns-in_err-holds-clause-told
returns-in_err-holds-clause-told g c =
    let p = err_from_is_err_and c.from_residual.result c.from_residual.ensures.1 in
    rw (p.1, p.2) (condition_unfit g.Q.Exact.fits (action_of g.Q.Exact.value c.args.action.now) c.args.state.now (overflow_of g.Q.Exact.value c.in_err-holds.field-0.0) c.in_err-holds.ensures)

pub returns-then-not-branch-clause-told : goal.returns-then-not-branch-clause-told
returns-then-not-branch-clause-told g c =
    let fits = g.Q.Exact.fits in
    let a = action_of g.Q.Exact.value c.args.action.now in
    let s = c.args.state.now in
    let h : truth_of a.condition s ≡ false = sym c.in_ok-holds.ensures.1 ∙ c.if-not-branch.true in
    let first = condition_fails fits a s c.in_ok-holds.ensures.0 h in
    record { first = first; never = no_action fits a s precondition first tt }

pub returns-in_err-joint_changes_in-clause-told : goal.returns-in_err-joint_changes_in-clause-told
returns-in_err-joint_changes_in-clause-told g c =
    let v = g.Q.Exact.value in
    let fits = g.Q.Exact.fits in
    let a = action_of g.Q.Exact.value c.args.action.now in
    let s = c.args.state.now in
    let h : truth_of a.condition s ≡ true = sym c.in_ok-holds.ensures.1 ∙ c.if-not-branch.false in
    let e : map (effect_of g.Q.Exact.value) c.deref.result.now ≡ a.effects = ap (map (effect_of g.Q.Exact.value)) c.deref.ensures.value in
    let stop = c.in_err-joint_changes_in.field-0.0 in
    let u : StopIs v fits (joint_steps a.effects s) stop = subst (λ (es : List Effect). StopIs v fits (joint_steps es s) stop) e c.in_err-joint_changes_in.ensures.does.0 in
    let p = err_from_is_err_and c.from_residual-in_err-joint_changes_in.result c.from_residual-in_err-joint_changes_in.ensures.1 in
    rw (p.1, p.2) (effects_told v fits a s (λ (u : Unit {0}). Does a s (patched s c.joint_changes_in.new.changes)) stop c.in_ok-holds.ensures.0 h u)

pub returns-clause-told : goal.returns-clause-told
returns-clause-told g c =
    let fits = g.Q.Exact.fits in
    let a = action_of g.Q.Exact.value c.args.action.now in
    let s = c.args.state.now in
    let h : truth_of a.condition s ≡ true = sym c.in_ok-holds.ensures.1 ∙ c.if-not-branch.false in
    let e : map (effect_of g.Q.Exact.value) c.deref.result.now ≡ a.effects = ap (map (effect_of g.Q.Exact.value)) c.deref.ensures.value in
    let p : AllPass fits (joint_steps a.effects s) = subst (λ (es : List Effect). AllPass fits (joint_steps es s)) e c.in_ok-joint_changes_in.ensures.does.0 in
    record {
      pass = effects_pass fits a s c.in_ok-holds.ensures.0 h p;
      does = record { may = h; effect = subst (λ (es : List Effect). joint es s ≡ Ok (patched s c.joint_changes_in.new.changes)) e c.in_ok-joint_changes_in.ensures.does.1 };
    }
