use Rattle.std.proofs.Common.{◌+◌, refl, sym, subst}
use Rattle.plus_number.specs.Frac.{fraction_of}
use Rattle.plus_state.specs.View.{problem_of, labels_of}
use Rattle.plus_validator.specs.Account.{progress}
use Rattle.plus_validator.specs.declared.run.Run.{Run}
use Rattle.plus_validator.specs.Running.{Steps}
use Rattle.plus_validator.specs.Standing.{entries_in, firings_in}
use Rattle.plus_validator.proofs.Runs.{step_says}
use Rattle.plus_validator.proofs.Halting.{advance_goes_on, advance_halts}
use Rattle.plus_validator.proofs.Stopping.{advance_halts_on, way_wants}
use Rattle.std.proofs.lemmas.Result.{err_from_is_err_and}
use Rattle.plus_validator.proofs.run.Run.step.Goals as goal

pub step-requires-clause-step : goal.step-requires-clause-step
step-requires-clause-step g c = record { old = c.args.self.now.timeline.line; until = fraction_of c.args.until; serves = c.requires.can.goes.knows.serves; does = c.in-Ok.ensures.told.does }

pub returns-clause-steps : goal.returns-clause-steps
returns-clause-steps g c = λ sent.
    let N = labels_of c.args.ground.now in
    let P = problem_of fraction_of c.args.ground.now in
    let T = g.T.Teller.telling N P in
    let told = g.T.Teller.told in
    let old = c.args.self.now in
    let u = fraction_of c.args.until in
    let new : Run g.row.T.Denot = record {
      timeline = c.advance.new.self;
      teller = c.step.new.self;
      entries = old.entries + entries_in c.in-Ok.next;
      firings = old.firings + firings_in c.advance.new.self.line c.in-Ok.next;
      ended = old.ended;
    } in
    subst (λ (r : Run g.row.T.Denot). Steps P T u (progress told sent old) (progress told sent r) c.is_there.result) (sym c.in_ok-count.ensures.counts)
    (subst (Steps P T u (progress told sent old) (progress told sent new)) (sym c.is_there.ensures)
    (step_says P T u (progress told sent old) (progress told sent new) c.in-Ok.next c.requires.can c.in-Ok.ensures.told.does c.in-Ok.ensures.told.pass refl
    (record { tells = c.in_ok-step.ensures.tells sent old.timeline.line u c.requires.can.goes.knows.serves c.in-Ok.ensures.told.does; entries = refl; firings = refl }) c.in-Ok.ensures.knows))

pub halted-requires : goal.halted-requires
halted-requires g c =
    advance_goes_on (problem_of fraction_of c.args.ground.now) (fraction_of c.args.until) c.args.self.now.timeline.line c.advance.new.self.line c.in-Err.stop
    c.requires.can.goes.going c.in-Err.ensures.told

pub returns-in-Err-clause-fits : goal.returns-in-Err-clause-fits
returns-in-Err-clause-fits g c =
    advance_halts (problem_of fraction_of c.args.ground.now) (fraction_of c.args.until) c.args.self.now.timeline.line c.advance.new.self.line c.in-Err.stop c.halted.result
    c.args.ground.now.fits c.halted.ensures c.in-Err.ensures.told

pub returns-in-Err-clause-stops : goal.returns-in-Err-clause-stops
returns-in-Err-clause-stops g c = λ sent.
    let N = labels_of c.args.ground.now in
    let P = problem_of fraction_of c.args.ground.now in
    let T = g.T.Teller.telling N P in
    let told = g.T.Teller.told in
    let old = c.args.self.now in
    let new : Run g.row.T.Denot = record { timeline = c.advance.new.self; teller = old.teller; entries = old.entries; firings = old.firings; ended = old.ended } in
    advance_halts_on P T (fraction_of c.args.until) (progress told sent old) (progress told sent new) sent c.in-Err.stop c.halted.result c.requires.can c.halted.ensures c.in-Err.ensures.told refl
    (g.met.T.Teller.behind N P sent old.teller)

pub returns-in_err-step-clause-stops : goal.returns-in_err-step-clause-stops
returns-in_err-step-clause-stops g c = λ sent.
    let N = labels_of c.args.ground.now in
    let P = problem_of fraction_of c.args.ground.now in
    let T = g.T.Teller.telling N P in
    let told = g.T.Teller.told in
    let p = err_from_is_err_and c.from_residual.result c.from_residual.ensures.1 in
    rw (p.1, p.2) (way_wants P T (fraction_of c.args.until) (progress told sent c.args.self.now) _ c.requires.can (g.met.T.Teller.behind N P sent c.args.self.now.teller))

pub returns-in_err-count-clause-stops : goal.returns-in_err-count-clause-stops
returns-in_err-count-clause-stops g c = λ sent.
    let N = labels_of c.args.ground.now in
    let P = problem_of fraction_of c.args.ground.now in
    let T = g.T.Teller.telling N P in
    let told = g.T.Teller.told in
    let p = err_from_is_err_and c.from_residual-in_err-count.result c.from_residual-in_err-count.ensures.1 in
    rw (p.1, p.2) (way_wants P T (fraction_of c.args.until) (progress told sent c.args.self.now) _ c.requires.can (g.met.T.Teller.behind N P sent c.args.self.now.teller))
