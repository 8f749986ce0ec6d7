use Rattle.std.proofs.Common.{◌≡◌}
use Rattle.plus_number.specs.Frac.{fraction_of, IsFrac64}
use Rattle.plus_state.specs.View.{action_of}
use Rattle.plus_steps.specs.Stepped.{Does}
use Rattle.plus_stepped.specs.Never.{CannotDo}
use Rattle.plus_instances.specs.Made.{IsMade}
use Rattle.plus_instances.proofs.Making.{made_here}
use Rattle.plus_numeric.specs.Calls.{call_meant}
use Rattle.plus_numeric.specs.Playing.{domain_in, problem_in}
use Rattle.plus_numeric.proofs.PlayLemmas.{call_halts, step_halts, step_fits, call_leads}
use Rattle.plus_numeric.proofs.play.Play.call.Goals as goal

pub returns-in-Err-clause-halts : goal.returns-in-Err-clause-halts
returns-in-Err-clause-halts c =
    let d = domain_in c.args.self.now in
    let p = problem_in c.args.self.now in
    call_halts c.args.self.now.source d c.args.line c.args.call.now.name (call_meant d p c.args.call.now) c.args.self.now.numeric
    c.in-Err.fault c.refused_call.result c.in-Err.ensures.refused c.refused_call.ensures

pub returns-in-Ok-step-clause-leads : goal.returns-in-Ok-step-clause-leads
returns-in-Ok-step-clause-leads c =
    let a = action_of fraction_of c.at-action.result.now in
    let made = made_here c.args.self.now.instances.numbering.now.typed.now c.place.new.self c.args.call.now.name c.args.call.now.args c.in-Ok.place a c.in-Ok.ensures.made c.at-action.ensures in
    call_leads (domain_in c.args.self.now) (problem_in c.args.self.now) c.args.line c.args.call.now a c.args.self.now.numeric c.step.new.self
    made.called c.in-Ok-step.ensures.told.pass c.in-Ok-step.ensures.told.does

pub returns-in-Err-step-clause-halts : goal.returns-in-Err-step-clause-halts
returns-in-Err-step-clause-halts c =
    let d = domain_in c.args.self.now in
    let p = problem_in c.args.self.now in
    let a = action_of fraction_of c.at-action.result.now in
    let s = c.args.self.now.numeric in
    let made = made_here c.args.self.now.instances.numbering.now.typed.now c.place.new.self c.args.call.now.name c.args.call.now.args c.in-Ok.place a c.in-Ok.ensures.made c.at-action.ensures in
    step_halts c.args.self.now.source d c.args.line c.args.call.now.name (call_meant d p c.args.call.now) s
    a (λ (u : Unit {0}). Does a s c.step.new.self) (CannotDo a s) c.in-Err-step.stop c.undone.result made.called c.in-Err-step.ensures.told c.undone.ensures

pub returns-in-Err-step-clause-fits : goal.returns-in-Err-step-clause-fits
returns-in-Err-step-clause-fits c =
    let a = action_of fraction_of c.at-action.result.now in
    let s = c.args.self.now.numeric in
    let made = made_here c.args.self.now.instances.numbering.now.typed.now c.place.new.self c.args.call.now.name c.args.call.now.args c.in-Ok.place a c.in-Ok.ensures.made c.at-action.ensures in
    step_fits (domain_in c.args.self.now) (problem_in c.args.self.now) a s c.args.line
    (λ (u : Unit {0}). Does a s c.step.new.self) (CannotDo a s) c.in-Err-step.stop c.undone.result made.fits c.in-Err-step.ensures.told c.undone.ensures
