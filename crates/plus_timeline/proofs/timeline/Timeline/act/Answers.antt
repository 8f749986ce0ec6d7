use Rattle.std.proofs.Common.{◌≡◌, ◌∙◌, false, ap, sym, subst}
use Rattle.std.specs.Prelude.{Ok, Err}
use Rattle.plus_model.specs.Terms.{State}
use Rattle.plus_state.specs.Changes.{patched, RisesIn}
use Rattle.plus_state.specs.View.{action_of}
use Rattle.plus_timeline.specs.Asked.{act_tests}
use Rattle.plus_timeline.specs.Timeline.{TimelineView}
use Rattle.plus_timeline.specs.Act.{ActsOn, BreaksAct, EffectTold}
use Rattle.plus_timeline.proofs.Telling.{refusal_told}
use Rattle.plus_timeline.proofs.timeline.Timeline.act.Goals as goal

pub put_changes-requires-clause-rises : goal.put_changes-requires-clause-rises
put_changes-requires-clause-rises g c = subst (λ (s : State). RisesIn s c.action_changes_in.new.changes) c.state.ensures.state c.in-Ok.ensures.rises

pub returns-in-Ok-put_changes-clause-told : goal.returns-in-Ok-put_changes-clause-told
returns-in-Ok-put_changes-clause-told g c =
    let a = action_of g.Q.Exact.value c.args.action.now in
    let v = c.args.self.now in
    let going : v.ended ≡ false = sym c.if-has_ended.ensures in
    let same : c.take_spare-changes.new.self ≡ v = c.take_spare-changes.ensures in
    let state : c.state.result.now ≡ v.now.state = c.state.ensures.state ∙ ap (λ (t : TimelineView). t.now.state) same in
    let after = c.action_changes_in.new.changes in
    let told =
    subst (λ (s : State). EffectTold {A = Unit {0}} g.Q.Exact.value g.Q.Exact.fits a c.args.line s (λ _. patched s after) (Ok tt)) state c.in-Ok.ensures.told v.now.acted in
    record {
      going = going;
      pass = told.pass;
      does = record {
        moment = rw same at c.in-Ok-put_changes.ensures.moment;
        after = patched v.now.state after;
        acts = record {
          still = (c.requires.serves going).still (c.requires.paused going).there (c.requires.paused going).fresh;
          may = told.does.may;
          effect = told.does.effect;
        };
        is = rw same at c.in-Ok-put_changes.ensures.ok;
      };
    }

pub returns-in-Err-clause-told : goal.returns-in-Err-clause-told
returns-in-Err-clause-told g c =
    let a = action_of g.Q.Exact.value c.args.action.now in
    let v = c.args.self.now in
    let going : v.ended ≡ false = sym c.if-has_ended.ensures in
    let state : c.state.result.now ≡ v.now.state = c.state.ensures.state ∙ ap (λ (t : TimelineView). t.now.state) c.take_spare-changes.ensures in
    let after = c.action_changes_in.new.changes in
    let told =
    subst (λ (s : State). EffectTold {A = Unit {0}} g.Q.Exact.value g.Q.Exact.fits a c.args.line s (λ _. patched s after) (Err c.in-Err.stop)) state c.in-Err.ensures.told v.now.acted in
    refusal_told {A = Unit {0}} {B = Unit {0}} g.Q.Exact.value g.Q.Exact.fits v.now.acted v.ended (act_tests v.now.acted a v.now.state)
    (λ _. ActsOn a v.now.state (patched v.now.state after)) (λ _. Unit {0}) (BreaksAct a c.args.line v.now.state) c.in-Err.stop going told
