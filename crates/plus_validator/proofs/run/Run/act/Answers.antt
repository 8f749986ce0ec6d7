use Rattle.std.proofs.Common.{refl}
use Rattle.plus_number.specs.Frac.{fraction_of}
use Rattle.plus_state.specs.View.{problem_of, labels_of, action_of}
use Rattle.plus_validator.specs.Account.{progress}
use Rattle.plus_validator.specs.declared.run.Run.{Run}
use Rattle.plus_validator.proofs.Played.{acts_once}
use Rattle.plus_validator.proofs.Grounded.{instance_fits}
use Rattle.plus_validator.specs.Plans.{pair_in}
use Rattle.plus_validator.proofs.Halting.{act_goes_on, act_halts}
use Rattle.plus_validator.proofs.Stopping.{call_halts_in, act_halts_in, act_wants}
use Rattle.std.proofs.lemmas.Result.{err_from_is_err_and}
use Rattle.plus_instances.proofs.Making.{made_here}
use Rattle.plus_validator.proofs.run.Run.act.Goals as goal

pub returns-clause-acts : goal.returns-clause-acts
returns-clause-acts g c = λ sent.
    let N = labels_of c.args.ground.now in
    let P = problem_of fraction_of c.args.ground.now in
    let T = g.T.Teller.telling N P in
    let told = g.T.Teller.told in
    let old = c.args.self.now in
    let new : Run g.row.T.Denot = record { timeline = c.act.new.self; teller = c.act-2.new.self; entries = old.entries; firings = old.firings; ended = old.ended } in
    acts_once (pair_in c.args.instances.now.numbering.now.typed.now) P T c.args.call.now (action_of fraction_of c.at-action.result.now)
    (progress told sent old) (progress told sent new) c.requires.can (made_here _ _ _ _ _ _ c.in-Ok.ensures.made c.at-action.ensures).called c.in_default.ensures.told.pass c.in_default.ensures.told.does refl
    (c.in_ok-act.ensures.tells sent (action_of fraction_of c.at-action.result.now) old.timeline.line refl c.in_default.ensures.told.does) refl refl c.in_default.ensures.knows

pub returns-in-Err-clause-fits : goal.returns-in-Err-clause-fits
returns-in-Err-clause-fits g c = c.refused_call.ensures.fits (problem_of fraction_of c.args.ground.now)

pub halted-requires : goal.halted-requires
halted-requires g c =
    act_goes_on (problem_of fraction_of c.args.ground.now) (action_of fraction_of c.at-action.result.now) c.args.line c.args.self.now.timeline.line c.act.new.self.line c.in-Err-act.stop
    c.requires.can.going c.in-Err-act.ensures.told

pub returns-in-Err-act-clause-fits : goal.returns-in-Err-act-clause-fits
returns-in-Err-act-clause-fits g c =
    let P = problem_of fraction_of c.args.ground.now in
    act_halts P (action_of fraction_of c.at-action.result.now) c.args.line c.args.self.now.timeline.line c.act.new.self.line c.in-Err-act.stop c.halted.result P.atoms
    (instance_fits c.args.instances.now.numbering.now.typed.now.domain c.args.instances.now.numbering.now.typed.now.problem c.args.ground.now (action_of fraction_of c.at-action.result.now) c.requires.expands (made_here _ _ _ _ _ _ c.in-Ok.ensures.made c.at-action.ensures).fits).1
    c.halted.ensures c.in-Err-act.ensures.told

pub returns-in-Err-clause-stops : goal.returns-in-Err-clause-stops
returns-in-Err-clause-stops g c = λ sent.
    call_halts_in (pair_in c.args.instances.now.numbering.now.typed.now) (problem_of fraction_of c.args.ground.now) (g.T.Teller.telling (labels_of c.args.ground.now) (problem_of fraction_of c.args.ground.now)) c.args.line
    c.args.call.now c.in-Err.fault (progress g.T.Teller.told sent c.args.self.now) sent c.refused_call.result c.requires.can c.in-Err.ensures.refused c.refused_call.ensures.says (g.met.T.Teller.behind (labels_of c.args.ground.now) (problem_of fraction_of c.args.ground.now) sent c.args.self.now.teller)

pub returns-in-Err-act-clause-stops : goal.returns-in-Err-act-clause-stops
returns-in-Err-act-clause-stops g c = λ sent.
    let d = pair_in c.args.instances.now.numbering.now.typed.now in
    let P = problem_of fraction_of c.args.ground.now in
    let T = g.T.Teller.telling (labels_of c.args.ground.now) P in
    let told = g.T.Teller.told in
    let new : Run g.row.T.Denot = record { timeline = c.act.new.self; teller = c.args.self.now.teller; entries = c.args.self.now.entries; firings = c.args.self.now.firings; ended = c.args.self.now.ended } in
    act_halts_in d P T c.args.line c.args.call.now (action_of fraction_of c.at-action.result.now) (progress g.T.Teller.told sent c.args.self.now) (progress g.T.Teller.told sent new) sent c.in-Err-act.stop c.halted.result c.requires.can (made_here _ _ _ _ _ _ c.in-Ok.ensures.made c.at-action.ensures).called
    c.halted.ensures c.in-Err-act.ensures.told refl (g.met.T.Teller.behind (labels_of c.args.ground.now) (problem_of fraction_of c.args.ground.now) sent c.args.self.now.teller)

pub returns-in_err-act-clause-stops : goal.returns-in_err-act-clause-stops
returns-in_err-act-clause-stops g c = λ sent.
    let p = err_from_is_err_and c.from_residual.result c.from_residual.ensures.1 in
    rw (p.1, p.2) (act_wants (pair_in c.args.instances.now.numbering.now.typed.now) (problem_of fraction_of c.args.ground.now) (g.T.Teller.telling (labels_of c.args.ground.now) (problem_of fraction_of c.args.ground.now)) c.args.line c.args.call.now (progress g.T.Teller.told sent c.args.self.now) _ c.requires.can (g.met.T.Teller.behind (labels_of c.args.ground.now) (problem_of fraction_of c.args.ground.now) sent c.args.self.now.teller))
