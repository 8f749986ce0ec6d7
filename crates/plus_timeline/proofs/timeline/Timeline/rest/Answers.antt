use Rattle.std.proofs.Common.{sym, subst}
use Rattle.std.specs.Prelude.{Err, Ok}
use Rattle.plus_model.specs.Terms.{State}
use Rattle.plus_state.specs.View.{problem_of}
use Rattle.plus_settle.specs.Settles.{SettleAnswers}
use Rattle.plus_timeline.specs.declared.stop.Stop.{Stop}
use Rattle.plus_timeline.specs.Advance.{AdvanceTold}
use Rattle.plus_timeline.proofs.Advancing.{where_true, where_false, there, closed, unsettled}
use Rattle.plus_timeline.proofs.timeline.Timeline.rest.Goals as goal

pub returns-in-Ok-false-clause-told : goal.returns-in-Ok-false-clause-told
returns-in-Ok-false-clause-told g c =
    there g.Q.Exact.value g.Q.Exact.fits (problem_of g.Q.Exact.value c.args.ground.now) (g.Q.Exact.value c.args.until) c.args.self.now c.requires.going c.arrive.new.self
    c.requires.moment c.requires.passed c.requires.still (where_false _ _ _ c.in-Ok-false.field-0-test c.in-Ok-false.ensures.told) c.requires.ahead c.arrive.ensures

pub returns-in-Err-settle-clause-told : goal.returns-in-Err-settle-clause-told
returns-in-Err-settle-clause-told g c =
    let P = problem_of g.Q.Exact.value c.args.ground.now in
    let may = where_true _ _ _ c.in-Ok-true.field-0-test c.in-Ok-true.ensures.told in
    let told = unsettled g.Q.Exact.value g.Q.Exact.fits P (g.Q.Exact.value c.args.until) c.args.self.now c.requires.going c.args.self.now
    c.requires.moment c.requires.passed c.requires.still may.later may.room c.in-Err-settle.stop
    (subst (λ (s : State). SettleAnswers g.Q.Exact.value g.Q.Exact.fits P s (Err c.in-Err-settle.stop)) c.state.ensures.state c.in-Err-settle.ensures.told) in
    subst (λ (s : Stop g.row.Q.Denot). AdvanceTold g.Q.Exact.value g.Q.Exact.fits P (g.Q.Exact.value c.args.until) c.args.self.now c.args.self.now (Err s)) (sym c.settle_stop.ensures) told

pub returns-in-Ok-clause-told : goal.returns-in-Ok-clause-told
returns-in-Ok-clause-told g c =
    let P = problem_of g.Q.Exact.value c.args.ground.now in
    let may = where_true _ _ _ c.in-Ok-true.field-0-test c.in-Ok-true.ensures.told in
    closed g.Q.Exact.value g.Q.Exact.fits P (g.Q.Exact.value c.args.until) c.args.self.now c.requires.going c.run.new.self
    c.requires.moment c.requires.passed c.requires.still may.later may.room c.in-Ok.running
    (subst (λ (s : State). SettleAnswers g.Q.Exact.value g.Q.Exact.fits P s (Ok c.in-Ok.running)) c.state.ensures.state c.in-Ok.ensures.told) c.run.ensures
