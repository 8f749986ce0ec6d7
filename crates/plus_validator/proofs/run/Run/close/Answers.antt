use Rattle.std.proofs.Common.{◌≡◌, [], refl, sym, subst}
use Rattle.plus_number.specs.Frac.{fraction_of}
use Rattle.plus_state.specs.View.{problem_of, labels_of}
use Rattle.plus_validator.specs.Account.{progress}
use Rattle.plus_validator.specs.Handing.{HandsOn, left}
use Rattle.plus_validator.specs.declared.run.Run.{Run}
use Rattle.plus_validator.proofs.Closing.{closes}
use Rattle.plus_validator.specs.declared.halt.Halt.{Halt}
use Rattle.plus_validator.specs.Stopped.{HaltsAtEnd}
use Rattle.plus_validator.proofs.Handing.{hands_map, cause_of}
use Rattle.plus_validator.proofs.Halting.{from_err, finish_goes_on, finish_halts}
use Rattle.plus_validator.proofs.LineStops.{halts_closing, halts_at_goal}
use Rattle.plus_validator.proofs.run.Run.close.Goals as goal

pub returns-in-Ok-clause-closes : goal.returns-in-Ok-clause-closes
returns-in-Ok-clause-closes g c =
    let new : Run g.row.T.Denot = record { timeline = c.finish.new.self; teller = c.reach.new.self.teller; entries = c.reach.new.self.entries; firings = c.reach.new.self.firings; ended = c.reach.new.self.ended } in
    hands_map c.in_ok-reach.ensures.reaches (λ sent out x.
    closes (problem_of fraction_of c.args.ground.now) (g.T.Teller.telling (labels_of c.args.ground.now) (problem_of fraction_of c.args.ground.now)) (progress g.T.Teller.told sent c.args.self.now) (progress g.T.Teller.told out c.reach.new.self) (progress g.T.Teller.told out new)
    (fraction_of c.time-now.result) c.time-now.ensures c.requires.can x c.in-Ok.ensures.told.pass c.in-Ok.ensures.told.does refl)

pub returns-in_err-reach-clause-stops : goal.returns-in_err-reach-clause-stops
returns-in_err-reach-clause-stops g c =
    let P = problem_of fraction_of c.args.ground.now in
    let T = g.T.Teller.telling (labels_of c.args.ground.now) P in
    let told = g.T.Teller.told in
    let now = fraction_of c.time-now.result in
    let Q : Halt → Type 0 = λ h. HandsOn (progress g.T.Teller.told) (left g.T.Teller.told) (λ old new. HaltsAtEnd P T old new h) c.args.self.now c.reach.new.self (g.O.Sink.taken c.args.out.now) (g.O.Sink.taken c.reach.new.out) in
    from_err c.from_residual.result (λ (h : Halt). h ≡ c.in_err-reach.field-0.0) Q c.from_residual.ensures.1
    (λ h e. subst Q (sym e)
    (hands_map c.in_err-reach.ensures.stops (λ sent out k.
    halts_closing P T (progress g.T.Teller.told sent c.args.self.now) (left g.T.Teller.told out c.reach.new.self) now c.in_err-reach.field-0.0 c.time-now.ensures k)))

pub halted-requires : goal.halted-requires
halted-requires g c =
    finish_goes_on (problem_of fraction_of c.args.ground.now) c.reach.new.self.timeline.line c.in-Err.stop (c.in_ok-reach.ensures.reaches.goes []).can.going c.in-Err.ensures.told

pub returns-in-Err-clause-stops : goal.returns-in-Err-clause-stops
returns-in-Err-clause-stops g c =
    let new : Run g.row.T.Denot = record { timeline = c.finish.new.self; teller = c.reach.new.self.teller; entries = c.reach.new.self.entries; firings = c.reach.new.self.firings; ended = c.reach.new.self.ended } in
    hands_map c.in_ok-reach.ensures.reaches (λ sent out x.
    halts_at_goal (problem_of fraction_of c.args.ground.now) (g.T.Teller.telling (labels_of c.args.ground.now) (problem_of fraction_of c.args.ground.now)) (progress g.T.Teller.told sent c.args.self.now) (progress g.T.Teller.told out c.reach.new.self) (progress g.T.Teller.told out new) out (fraction_of c.time-now.result) c.in-Err.stop c.halted.result
    c.time-now.ensures x refl c.halted.ensures c.in-Err.ensures.told (g.met.T.Teller.behind (labels_of c.args.ground.now) (problem_of fraction_of c.args.ground.now) out c.reach.new.self.teller))

pub returns-in-Err-clause-cause : goal.returns-in-Err-clause-cause
returns-in-Err-clause-cause g c =
    let P = problem_of fraction_of c.args.ground.now in
    cause_of P (g.O.Sink.faults c.args.out.now) (g.O.Sink.faults c.reach.new.out) c.halted.result
    (finish_halts P c.reach.new.self.timeline.line c.in-Err.stop c.halted.result c.halted.ensures c.in-Err.ensures.told)

pub finish-requires-clause-knows : goal.finish-requires-clause-knows
finish-requires-clause-knows g c = λ _. (c.in_ok-reach.ensures.reaches.goes []).can.knows

pub finish-requires-clause-paused : goal.finish-requires-clause-paused
finish-requires-clause-paused g c = λ _. (c.in_ok-reach.ensures.reaches.goes []).paused
