use Rattle.std.proofs.Common.{◌≡◌, false, subst}
use Rattle.plus_model.specs.Terms.{State}
use Rattle.plus_model.specs.Value.{holds}
use Rattle.plus_model.specs.Breach.{Precondition}
use Rattle.plus_search.specs.declared.spaces.Fate.TheVariants.{Broken, Beyond}
use Rattle.plus_state.specs.View.{action_of, overflow_of}
use Rattle.plus_stretch.specs.Tests.{asks, breach}
use Rattle.plus_timeline.proofs.Acted.{condition_unfit, condition_fails}
use Rattle.plus_planner.specs.Places.{ActFails}
use Rattle.plus_planner.proofs.deciding.refuses.Goals as goal

pub returns-in-Ok-false : goal.returns-in-Ok-false
returns-in-Ok-false g c =
    let fits = g.Q.Exact.fits in
    let a = action_of g.Q.Exact.value c.args.action.now in
    let n = c.args.timeline.now.now.acted in
    let b = c.in-Ok-false.ensures.1 in
    let d = c.in-Ok-false.field-0-test in
    let h : holds a.condition c.state.result.now ≡ false = cc (b, d) in
    subst (λ (s : State). ActFails fits n a s Broken) c.state.ensures.state
    record { test = breach (Precondition n); first = condition_fails fits n a c.state.result.now c.in-Ok-false.ensures.0 h; kind = λ l. l }

pub returns-in-Err : goal.returns-in-Err
returns-in-Err g c =
    let fits = g.Q.Exact.fits in
    let a = action_of g.Q.Exact.value c.args.action.now in
    let n = c.args.timeline.now.now.acted in
    let m = overflow_of g.Q.Exact.value c.in-Err.field-0 in
    subst (λ (s : State). ActFails fits n a s Beyond) c.state.ensures.state
    record { test = asks m; first = condition_unfit fits n a c.state.result.now m c.in-Err.ensures; kind = tt }
