use Rattle.std.proofs.Common.{sym, subst}
use Rattle.std.specs.Prelude.{Err}
use Rattle.plus_state.specs.View.{problem_of}
use Rattle.plus_timeline.specs.declared.stop.Stop.{Stop}
use Rattle.plus_timeline.specs.Advance.{AdvanceTold}
use Rattle.plus_timeline.proofs.Advancing.{where_true, where_false, there, closed, unsettled}
use Rattle.plus_indexed.proofs.stepper.Stepper.rest.Goals as goal

pub returns-in-Err-settled-clause-told : goal.returns-in-Err-settled-clause-told
returns-in-Err-settled-clause-told g c =
    let P = problem_of g.Q.Exact.value c.args.ground.now in
    let may = where_true _ _ _ c.in-Ok-true.field-0-test c.in-Ok-true.ensures.told in
    let told = unsettled g.Q.Exact.value g.Q.Exact.fits P (g.Q.Exact.value c.args.until) c.args.timeline.now c.requires.going c.args.timeline.now
    c.requires.moment c.requires.passed c.requires.still may.later may.room c.in-Err-settled.stop c.in-Err-settled.ensures.told in
    subst (λ (s : Stop g.row.Q.Denot). AdvanceTold g.Q.Exact.value g.Q.Exact.fits P (g.Q.Exact.value c.args.until) c.args.timeline.now c.args.timeline.now (Err s)) (sym c.settle_stop.ensures) told

pub returns-in-Ok-clause-told : goal.returns-in-Ok-clause-told
returns-in-Ok-clause-told g c =
    let P = problem_of g.Q.Exact.value c.args.ground.now in
    let may = where_true _ _ _ c.in-Ok-true.field-0-test c.in-Ok-true.ensures.told in
    closed g.Q.Exact.value g.Q.Exact.fits P (g.Q.Exact.value c.args.until) c.args.timeline.now c.requires.going c.run.new.self
    c.requires.moment c.requires.passed c.requires.still may.later may.room c.settled.new.running c.in-Ok.ensures.told c.run.ensures

pub returns-in-Ok-false-clause-told : goal.returns-in-Ok-false-clause-told
returns-in-Ok-false-clause-told g c =
    there g.Q.Exact.value g.Q.Exact.fits (problem_of g.Q.Exact.value c.args.ground.now) (g.Q.Exact.value c.args.until) c.args.timeline.now c.requires.going c.arrive.new.self
    c.requires.moment c.requires.passed c.requires.still (where_false _ _ _ c.in-Ok-false.field-0-test c.in-Ok-false.ensures.told) c.requires.ahead c.arrive.ensures
