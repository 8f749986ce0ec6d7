use Rattle.std.proofs.Common.{◌∙◌, sym}
use Rattle.plus_lift.proofs.LiftLemmas.{lift_act, off_at_act, off_at_end}
use Rattle.plus_lift.proofs.lifting.lift.Goals as goal

pub returns-in-Err : goal.returns-in-Err
returns-in-Err c =
    let no_step = rw (c.bytes.ensures, c.as_slice.ensures) at (sym c.eq.ensures ∙ c.if-eq.false) in
    let no_round = rw (c.bytes-in-steps.ensures, c.as_slice-in-steps.ensures) at (sym c.eq-in-steps.ensures ∙ c.if-eq-2.false) in
    off_at_act c.args.interval c.args.steps.now c.steps.step-index c.steps.count c.step-item.result c.steps.acts.items c.in-Err.fault
    c.steps-test.true c.step-item.is no_step no_round c.steps.invariant c.in-Err.ensures

pub steps-preserved : goal.steps-preserved
steps-preserved c =
    let no_step = rw (c.bytes.ensures, c.as_slice.ensures) at (sym c.eq.ensures ∙ c.if-eq.false) in
    let no_round = rw (c.bytes-in-steps.ensures, c.as_slice-in-steps.ensures) at (sym c.eq-in-steps.ensures ∙ c.if-eq-2.false) in
    lift_act c.args.interval c.args.steps.now c.steps.step-index c.steps.count c.step-item.result c.steps.acts.items c.push.new.self.items c.in-Ok.now c.in-Ok-label.label
    c.steps-test.true c.step-item.is no_step no_round c.steps.invariant c.in-Ok.ensures c.in-Ok-label.ensures c.in_default.ensures.items

pub returns-in-Err-time : goal.returns-in-Err-time
returns-in-Err-time c =
    off_at_end c.args.interval c.args.steps.now c.steps.step-index c.steps.count c.steps.acts.items c.in-Err-time.fault c.steps-test.false
    c.steps.invariant c.in-Err-time.ensures
