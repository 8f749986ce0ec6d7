use Rattle.std.proofs.Common.{◌≡◌, true, false, sym, subst}
use Rattle.plus_model.specs.Terms.{State}
use Rattle.plus_model.specs.Value.{holds}
use Rattle.plus_model.specs.Breach.{Goal}
use Rattle.plus_state.specs.View.{problem_of, overflow_of}
use Rattle.plus_stretch.specs.Tests.{asks, breach, AllPass, FirstFailing}
use Rattle.plus_timeline.specs.Asked.{goal_tests}
use Rattle.plus_timeline.proofs.Acted.{goal_unfit, goal_fails, goal_holds}
use Rattle.plus_timeline.proofs.timeline.Timeline.finish.Goals as goal

pub returns-in-Ok-true-clause-told : goal.returns-in-Ok-true-clause-told
returns-in-Ok-true-clause-told g c =
    let fits = g.Q.Exact.fits in
    let P = problem_of g.Q.Exact.value c.args.ground.now in
    let e = c.state.ensures.state in
    let b = c.in-Ok-true.ensures.1 in
    let d = c.in-Ok-true.field-0-test in
    let h : holds P.goal c.state.result.now ≡ true = cc (b, d) in
    record {
      going = sym c.if-has_ended.ensures;
      pass = subst (λ (s : State). AllPass fits (goal_tests P s)) e (goal_holds fits P c.state.result.now c.in-Ok-true.ensures.0 h);
      does = subst (λ (s : State). holds P.goal s ≡ true) e h;
    }

pub returns-in-Ok-false-clause-told : goal.returns-in-Ok-false-clause-told
returns-in-Ok-false-clause-told g c =
    let fits = g.Q.Exact.fits in
    let P = problem_of g.Q.Exact.value c.args.ground.now in
    let e = c.state.ensures.state in
    let b = c.in-Ok-false.ensures.1 in
    let d = c.in-Ok-false.field-0-test in
    let h : holds P.goal c.state.result.now ≡ false = cc (b, d) in
    record {
      going = sym c.if-has_ended.ensures;
      first = subst (λ (s : State). FirstFailing fits (goal_tests P s) (breach Goal)) e (goal_fails fits P c.state.result.now c.in-Ok-false.ensures.0 h);
      means = subst (λ (s : State). holds P.goal s ≡ false) e h;
    }

pub returns-in-Err-clause-told : goal.returns-in-Err-clause-told
returns-in-Err-clause-told g c =
    let fits = g.Q.Exact.fits in
    let P = problem_of g.Q.Exact.value c.args.ground.now in
    let m = overflow_of g.Q.Exact.value c.in-Err.overflow in
    record {
      going = sym c.if-has_ended.ensures;
      first = subst (λ (s : State). FirstFailing fits (goal_tests P s) (asks m)) c.state.ensures.state (goal_unfit fits P c.state.result.now m c.in-Err.ensures);
    }
