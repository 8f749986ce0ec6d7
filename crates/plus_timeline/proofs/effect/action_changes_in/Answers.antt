use Rattle.std.proofs.Common.{◌≡◌, List, map, true, false, refl, subst, ◌∙◌, ap}
use Rattle.std.specs.Prelude.{Ok, Err}
use Rattle.plus_model.specs.Terms.{Effect}
use Rattle.plus_model.specs.Value.{holds as truth_of}
use Rattle.plus_model.specs.Joint.{joint, Conflict, NoValue}
use Rattle.plus_state.specs.Changes.{patched}
use Rattle.plus_state.specs.Asked.{AllFit}
use Rattle.plus_state.specs.Tests.{tests_of}
use Rattle.plus_state.specs.Steps.{AllPass, FirstStop, asks, fault, joint_steps}
use Rattle.plus_state.specs.View.{action_of, effect_of, overflow_of}
use Rattle.plus_timeline.proofs.Acted.{condition_unfit, condition_fails, effects_fail, effects_pass}
use Rattle.plus_timeline.proofs.effect.action_changes_in.Goals as goal

pub returns-in-Err-clause-told : goal.returns-in-Err-clause-told
returns-in-Err-clause-told g c i =
    let v = g.Q.Exact.value in
    let fits = g.Q.Exact.fits in
    let a = action_of g.Q.Exact.value c.args.action.now in
    let s = c.args.state.now in
    record { going = refl; first = condition_unfit fits i a s (overflow_of v c.in-Err.overflow) c.in-Err.ensures }

pub returns-in-Ok-new-clause-told : goal.returns-in-Ok-new-clause-told
returns-in-Ok-new-clause-told g c i =
    let v = g.Q.Exact.value in
    let fits = g.Q.Exact.fits in
    let a = action_of g.Q.Exact.value c.args.action.now in
    let s = c.args.state.now in
    let t : AllFit fits (tests_of a.condition s) = c.in-Ok-false.ensures.0 in
    let b = c.in-Ok-false.ensures.1 in
    let d = c.in-Ok-false.field-0-test in
    let h : truth_of a.condition s ≡ false = cc (b, d) in
    record { going = refl; first = condition_fails fits i a s t h; means = record { line_is = refl; label_is = c.in-Ok-new.ensures ∙ c.bytes.ensures; fails = h } }

pub returns-in-Ok-clause-told : goal.returns-in-Ok-clause-told
returns-in-Ok-clause-told g c i =
    let v = g.Q.Exact.value in
    let fits = g.Q.Exact.fits in
    let a = action_of g.Q.Exact.value c.args.action.now in
    let s = c.args.state.now in
    let t : AllFit fits (tests_of a.condition s) = c.in-Ok-true.ensures.0 in
    let b = c.in-Ok-true.ensures.1 in
    let d = c.in-Ok-true.field-0-test in
    let h : truth_of a.condition s ≡ true = cc (b, d) in
    let e : map (effect_of g.Q.Exact.value) c.deref.result.now ≡ a.effects = ap (map (effect_of g.Q.Exact.value)) c.deref.ensures.value in
    let p : AllPass fits (joint_steps a.effects s) = subst (λ (es : List Effect). AllPass fits (joint_steps es s)) e c.in-Ok.ensures.does.0 in
    record {
      going = refl;
      pass = effects_pass fits i a s t h p;
      does = record { may = h; effect = subst (λ (es : List Effect). joint es s ≡ Ok (patched s c.joint_changes_in.new.changes)) e c.in-Ok.ensures.does.1 };
    }

pub returns-in-Err-Number-clause-told : goal.returns-in-Err-Number-clause-told
returns-in-Err-Number-clause-told g c i =
    let v = g.Q.Exact.value in
    let fits = g.Q.Exact.fits in
    let a = action_of g.Q.Exact.value c.args.action.now in
    let s = c.args.state.now in
    let t : AllFit fits (tests_of a.condition s) = c.in-Ok-true.ensures.0 in
    let b = c.in-Ok-true.ensures.1 in
    let d = c.in-Ok-true.field-0-test in
    let h : truth_of a.condition s ≡ true = cc (b, d) in
    let e : map (effect_of g.Q.Exact.value) c.deref.result.now ≡ a.effects = ap (map (effect_of g.Q.Exact.value)) c.deref.ensures.value in
    let w = rw c.in-Err-Number.field-0-is at c.in-Err-Number.ensures.does in
    let m = overflow_of g.Q.Exact.value c.in-Err-Number.overflow in
    let p : FirstStop fits (joint_steps a.effects s) (asks m) = subst (λ (es : List Effect). FirstStop fits (joint_steps es s) (asks m)) e w.0 in
    record { going = refl; first = effects_fail fits i a s (asks m) t h p }

pub returns-in-Err-Conflict-clause-told : goal.returns-in-Err-Conflict-clause-told
returns-in-Err-Conflict-clause-told g c i =
    let v = g.Q.Exact.value in
    let fits = g.Q.Exact.fits in
    let a = action_of g.Q.Exact.value c.args.action.now in
    let s = c.args.state.now in
    let t : AllFit fits (tests_of a.condition s) = c.in-Ok-true.ensures.0 in
    let b = c.in-Ok-true.ensures.1 in
    let d = c.in-Ok-true.field-0-test in
    let h : truth_of a.condition s ≡ true = cc (b, d) in
    let e : map (effect_of g.Q.Exact.value) c.deref.result.now ≡ a.effects = ap (map (effect_of g.Q.Exact.value)) c.deref.ensures.value in
    let why = Conflict c.in-Err-Conflict.fluent.0 in
    let w = rw c.in-Err-Conflict.field-0-is at c.in-Err-Conflict.ensures.does in
    let p : FirstStop fits (joint_steps a.effects s) (fault why) = subst (λ (es : List Effect). FirstStop fits (joint_steps es s) (fault why)) e w.0 in
    record {
      going = refl;
      first = effects_fail fits i a s (fault why) t h p;
      means = record { may = h; fails = subst (λ (es : List Effect). joint es s ≡ Err why) e w.1 };
    }

pub returns-in-Err-NoValue-clause-told : goal.returns-in-Err-NoValue-clause-told
returns-in-Err-NoValue-clause-told g c i =
    let v = g.Q.Exact.value in
    let fits = g.Q.Exact.fits in
    let a = action_of g.Q.Exact.value c.args.action.now in
    let s = c.args.state.now in
    let t : AllFit fits (tests_of a.condition s) = c.in-Ok-true.ensures.0 in
    let b = c.in-Ok-true.ensures.1 in
    let d = c.in-Ok-true.field-0-test in
    let h : truth_of a.condition s ≡ true = cc (b, d) in
    let e : map (effect_of g.Q.Exact.value) c.deref.result.now ≡ a.effects = ap (map (effect_of g.Q.Exact.value)) c.deref.ensures.value in
    let why = NoValue c.in-Err-NoValue.fluent.0 in
    let w = rw c.in-Err-NoValue.field-0-is at c.in-Err-NoValue.ensures.does in
    let p : FirstStop fits (joint_steps a.effects s) (fault why) = subst (λ (es : List Effect). FirstStop fits (joint_steps es s) (fault why)) e w.0 in
    record {
      going = refl;
      first = effects_fail fits i a s (fault why) t h p;
      means = record { may = h; fails = subst (λ (es : List Effect). joint es s ≡ Err why) e w.1 };
    }
