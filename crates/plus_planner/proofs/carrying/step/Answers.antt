use Rattle.std.proofs.Common.{sym, subst}
use Rattle.plus_state.specs.View.{problem_of}
use Rattle.plus_planner.specs.Standing.{Steps}
use Rattle.plus_planner.proofs.Carries.{step_says, refusal_says}
use Rattle.plus_planner.proofs.KinLemmas.{kin_step, kin_ended}
use Rattle.plus_planner.proofs.carrying.step.Goals as goal

pub returns-in-Ok-clause-steps : goal.returns-in-Ok-clause-steps
returns-in-Ok-clause-steps g c =
    let P = problem_of g.Q.Exact.value c.args.ground.now in
    let u = g.Q.Exact.value c.args.until in
    subst (Steps g.Q.Exact.fits P u c.args.timeline.now c.advance.new.timeline) (sym c.done.ensures)
    (step_says g.Q.Exact.value g.Q.Exact.fits P u c.args.timeline.now c.advance.new.timeline c.in-Ok.next c.requires.reach c.in-Ok.ensures.told.does c.in-Ok.ensures.told.pass)

pub returns-in_ok-refused-in-Err-clause-steps : goal.returns-in_ok-refused-in-Err-clause-steps
returns-in_ok-refused-in-Err-clause-steps g c =
    refusal_says g.Q.Exact.value g.Q.Exact.fits (problem_of g.Q.Exact.value c.args.ground.now) (g.Q.Exact.value c.args.until) c.args.timeline.now c.advance.new.timeline
    c.in-Err.stop c.in_ok-refused-in-Err.field-0 c.in_ok-refused-in-Err.ensures c.in-Err.ensures.told

pub returns-in-Ok-clause-kin : goal.returns-in-Ok-clause-kin
returns-in-Ok-clause-kin g c =
    kin_step g.Q.Exact.value (problem_of g.Q.Exact.value c.args.ground.now) (g.Q.Exact.value c.args.until) c.args.timeline.now c.advance.new.timeline c.in-Ok.next c.in-Ok.ensures.told.does c.requires.kin

pub returns-in_ok-refused-in-Err-clause-kin : goal.returns-in_ok-refused-in-Err-clause-kin
returns-in_ok-refused-in-Err-clause-kin g c =
    kin_ended (problem_of g.Q.Exact.value c.args.ground.now) c.args.timeline.now c.advance.new.timeline c.in-Err.ensures.refused c.requires.kin

pub returns-in-Ok-clause-knows : goal.returns-in-Ok-clause-knows
returns-in-Ok-clause-knows g c e = c.in-Ok.ensures.knows

pub returns-in_ok-refused-in-Err-clause-knows : goal.returns-in_ok-refused-in-Err-clause-knows
returns-in_ok-refused-in-Err-clause-knows g c e = cc
