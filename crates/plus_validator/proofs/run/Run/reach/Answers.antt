use Rattle.std.proofs.Common.{◌≡◌, true, false, [], refl, sym, subst, ◌∙◌, arith}
use Rattle.plus_number.specs.Frac.{fraction_of}
use Rattle.plus_state.specs.View.{problem_of, labels_of}
use Rattle.plus_validator.specs.Account.{Progress, progress}
use Rattle.plus_validator.specs.Handing.{HandsOn, left}
use Rattle.plus_validator.specs.Halts.{HasCause}
use Rattle.plus_validator.specs.Running.{Steps}
use Rattle.plus_validator.proofs.Runs.{along_start, along_step, along_done}
use Rattle.plus_validator.specs.declared.halt.Halt.{Halt}
use Rattle.plus_validator.specs.Stopped.{HaltsOnWay}
use Rattle.plus_validator.proofs.Handing.{hands_none, hands_map, hands_then, cause_of, rose_since}
use Rattle.plus_validator.proofs.Halting.{from_err}
use Rattle.plus_validator.proofs.Stopping.{along_halts, way_breaks}
use Rattle.plus_validator.proofs.run.Run.reach.Goals as goal

pub steps-init : goal.steps-init
steps-init g c = record {
  goes = hands_none _ (λ sent. along_start (problem_of fraction_of c.args.ground.now) (g.T.Teller.telling (labels_of c.args.ground.now) (problem_of fraction_of c.args.ground.now)) (fraction_of c.args.until) (progress g.T.Teller.told sent c.args.self.now) c.requires.can);
  keeps = refl;
  no_fall = omega arith;
}

pub step-requires : goal.step-requires
step-requires g c = record { can = (c.steps.invariant.goes.goes []).can }

pub steps-preserved : goal.steps-preserved
steps-preserved g c =
    let P = problem_of fraction_of c.args.ground.now in
    let T = g.T.Teller.telling (labels_of c.args.ground.now) P in
    let told = g.T.Teller.told in
    let u = fraction_of c.args.until in
    record {
      goes = hands_then c.steps.invariant.goes c.in-Ok.ensures.goes
          (λ sent mid out a s.
          along_step P T u (progress g.T.Teller.told sent c.args.self.now) (progress g.T.Teller.told mid c.steps.self) (progress g.T.Teller.told out c.flush_much.new.self) a
          (subst (λ (r : Progress _). Steps P T u (progress g.T.Teller.told mid c.steps.self) r false) (sym s)
          (subst (Steps P T u (progress g.T.Teller.told mid c.steps.self) (progress g.T.Teller.told mid c.step.new.self)) c.if-there.false (c.in_ok-there.ensures.steps mid))));
      keeps = c.flush_much.ensures.keeps ∙ c.step.ensures.keeps ∙ c.steps.invariant.keeps;
      no_fall = omega (arith, c.steps.invariant.no_fall, c.flush_much.ensures.no_fall);
    }

pub returns-then-there-clause-reaches : goal.returns-then-there-clause-reaches
returns-then-there-clause-reaches g c =
    let P = problem_of fraction_of c.args.ground.now in
    let T = g.T.Teller.telling (labels_of c.args.ground.now) P in
    let told = g.T.Teller.told in
    let u = fraction_of c.args.until in
    hands_then c.steps.invariant.goes c.in-Ok.ensures.goes
    (λ sent mid out a s.
    along_done P T u (progress g.T.Teller.told sent c.args.self.now) (progress g.T.Teller.told mid c.steps.self) (progress g.T.Teller.told out c.flush_much.new.self) a
    (subst (λ (r : Progress _). Steps P T u (progress g.T.Teller.told mid c.steps.self) r true) (sym s)
    (subst (Steps P T u (progress g.T.Teller.told mid c.steps.self) (progress g.T.Teller.told mid c.step.new.self)) c.if-there.true (c.in_ok-there.ensures.steps mid))))

pub returns-then-there-clause-keeps : goal.returns-then-there-clause-keeps
returns-then-there-clause-keeps g c = c.flush_much.ensures.keeps ∙ c.step.ensures.keeps ∙ c.steps.invariant.keeps

pub returns-in_err-there-clause-keeps : goal.returns-in_err-there-clause-keeps
returns-in_err-there-clause-keeps g c = c.step.ensures.keeps ∙ c.steps.invariant.keeps

pub returns-in_default-clause-keeps : goal.returns-in_default-clause-keeps
returns-in_default-clause-keeps g c = c.flush_much.ensures.keeps ∙ c.step.ensures.keeps ∙ c.steps.invariant.keeps

pub steps-smaller : goal.steps-smaller
steps-smaller g c =
    let P = problem_of fraction_of c.args.ground.now in
    let T = g.T.Teller.telling (labels_of c.args.ground.now) P in
    let told = g.T.Teller.told in
    let u = fraction_of c.args.until in
    let goes = c.in-Ok.ensures.goes in
    (subst (λ (r : Progress _). Steps P T u (progress g.T.Teller.told [] c.steps.self) r false) (sym (goes.goes []))
    (subst (Steps P T u (progress g.T.Teller.told [] c.steps.self) (progress g.T.Teller.told [] c.step.new.self)) c.if-there.false (c.in_ok-there.ensures.steps []))).less

-- ---- the halts

pub returns-in_err-there-clause-stops : goal.returns-in_err-there-clause-stops
returns-in_err-there-clause-stops g c =
    let P = problem_of fraction_of c.args.ground.now in
    let T = g.T.Teller.telling (labels_of c.args.ground.now) P in
    let told = g.T.Teller.told in
    let u = fraction_of c.args.until in
    from_err c.from_residual.result (λ (h : Halt). h ≡ c.in_err-there.field-0.0) (λ (h : Halt). HandsOn (progress g.T.Teller.told) (left g.T.Teller.told) (λ old new. HaltsOnWay P T u old new h) c.args.self.now c.step.new.self (g.O.Sink.taken c.args.out.now) (g.O.Sink.taken c.steps.out)) c.from_residual.ensures.1
    (λ h e. subst (λ (h : Halt). HandsOn (progress g.T.Teller.told) (left g.T.Teller.told) (λ old new. HaltsOnWay P T u old new h) c.args.self.now c.step.new.self (g.O.Sink.taken c.args.out.now) (g.O.Sink.taken c.steps.out)) (sym e)
    (hands_map c.steps.invariant.goes (λ sent out a.
    along_halts P T u (progress g.T.Teller.told sent c.args.self.now) (progress g.T.Teller.told out c.steps.self) (left g.T.Teller.told out c.step.new.self) c.in_err-there.field-0.0 a (c.in_err-there.ensures.stops out))))

pub returns-in_err-there-clause-cause : goal.returns-in_err-there-clause-cause
returns-in_err-there-clause-cause g c =
    let P = problem_of fraction_of c.args.ground.now in
    from_err c.from_residual.result (λ (h : Halt). h ≡ c.in_err-there.field-0.0) (HasCause P (g.O.Sink.faults c.args.out.now) (g.O.Sink.faults c.steps.out)) c.from_residual.ensures.1
    (λ h e. subst (HasCause P (g.O.Sink.faults c.args.out.now) (g.O.Sink.faults c.steps.out)) (sym e) (cause_of P (g.O.Sink.faults c.args.out.now) (g.O.Sink.faults c.steps.out) c.in_err-there.field-0.0 c.in_err-there.ensures.fits))

pub returns-in_default-clause-stops : goal.returns-in_default-clause-stops
returns-in_default-clause-stops g c =
    let P = problem_of fraction_of c.args.ground.now in
    let T = g.T.Teller.telling (labels_of c.args.ground.now) P in
    let told = g.T.Teller.told in
    let u = fraction_of c.args.until in
    hands_then c.steps.invariant.goes (c.in_default.ensures.breaks (labels_of c.args.ground.now) P)
    (λ sent mid out a o.
    along_halts P T u (progress g.T.Teller.told sent c.args.self.now) (progress g.T.Teller.told mid c.steps.self) (left g.T.Teller.told out c.flush_much.new.self) _ a
    (way_breaks P T u (progress g.T.Teller.told mid c.steps.self) (progress g.T.Teller.told mid c.step.new.self) (left g.T.Teller.told out c.flush_much.new.self) c.in_ok-there.there (c.in_ok-there.ensures.steps mid) o))

pub returns-in_default-clause-cause : goal.returns-in_default-clause-cause
returns-in_default-clause-cause g c = rose_since _ _ _ c.steps.invariant.no_fall c.in_default.ensures.cause
