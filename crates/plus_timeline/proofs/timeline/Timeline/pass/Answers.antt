use Rattle.std.proofs.Common.{◌∙◌, sym, subst}
use Rattle.std.specs.Prelude.{Err, Ok}
use Rattle.plus_fraction.specs.Fraction.{Fraction}
use Rattle.plus_state.specs.View.{problem_of}
use Rattle.plus_stretch.specs.Arrives.{StretchTold}
use Rattle.plus_timeline.specs.declared.stop.Stop.{Stop}
use Rattle.plus_timeline.specs.Advance.{AdvanceTold}
use Rattle.plus_timeline.proofs.Advancing.{enters, halted, later_there, bound_as, enters_as}
use Rattle.plus_timeline.proofs.timeline.Timeline.pass.Goals as goal

pub reach-requires-clause-later : goal.reach-requires-clause-later
reach-requires-clause-later g c =
    rw c.in-Ok.ensures.same (later_there (problem_of g.Q.Exact.value c.args.ground.now).timed _ _ _ _ c.time-time.ensures c.bound-latest.ensures c.requires.later)

pub returns-in-Err-clause-told : goal.returns-in-Err-clause-told
returns-in-Err-clause-told g c =
    let P = problem_of g.Q.Exact.value c.args.ground.now in
    let b = bound_as P.timed _ _ _ _ c.time-time.ensures c.bound-latest.ensures in
    let told = halted g.Q.Exact.value g.Q.Exact.fits P (g.Q.Exact.value c.args.until) c.args.self.now c.requires.going c.reach.new.self
    c.args.self.now.running c.args.self.now.rates c.requires.runs c.in-Err.halt
    (subst (λ (x : Fraction). StretchTold g.Q.Exact.value g.Q.Exact.fits P x c.args.self.now.now.time c.args.self.now.now.state c.args.self.now.running c.args.self.now.rates (Err c.in-Err.halt)) b (rw c.in-Ok.ensures.same at c.in-Err.ensures.told)) in
    subst (λ (s : Stop g.row.Q.Denot). AdvanceTold g.Q.Exact.value g.Q.Exact.fits P (g.Q.Exact.value c.args.until) c.args.self.now c.reach.new.self (Err s)) (sym c.halt_stop.ensures) told

pub returns-in-Ok-enter-clause-told : goal.returns-in-Ok-enter-clause-told
returns-in-Ok-enter-clause-told g c =
    let P = problem_of g.Q.Exact.value c.args.ground.now in
    let b = bound_as P.timed _ _ _ _ c.time-time.ensures c.bound-latest.ensures in
    let a = c.reach.new.ahead.arrival in
    rw c.deref.ensures (enters g.Q.Exact.value g.Q.Exact.fits P (g.Q.Exact.value c.args.until) c.args.self.now c.requires.going c.enter.new.self
    c.args.self.now.running c.args.self.now.rates c.requires.runs a
    (subst (λ (x : Fraction). StretchTold g.Q.Exact.value g.Q.Exact.fits P x c.args.self.now.now.time c.args.self.now.now.state c.args.self.now.running c.args.self.now.rates (Ok a)) b (rw c.in-Ok.ensures.same at c.in-Ok-reach.ensures.told))
    (enters_as (g.Q.Exact.value a.time) a.changes P c.args.self.now c.reach.new.self c.enter.new.self (c.in-Ok-reach.ensures.same ∙ c.in-Ok.ensures.same) c.in-Ok-enter.ensures.ok))
