use Rattle.plus_model.specs.Plan.{Instance, ActLine}
use Rattle.plus_state.specs.View.{problem_of, action_of}
use Rattle.plus_trim.proofs.Behind.{act_acts, act_behind, act_refused, stops_on_way}
use Rattle.plus_trim.proofs.acting.act_at.Goals as goal

pub returns-in-Ok-clause-acts : goal.returns-in-Ok-clause-acts
returns-in-Ok-clause-acts g c =
    let v = g.Q.Exact.value in
    act_acts v g.Q.Exact.fits (problem_of v c.args.ground.now) (v c.args.time) c.args.line.now.line c.reach.new.line.line c.act.new.self.line c.in-Ok.ensures.comes
    (action_of v c.args.action.now) c.args.number c.act.result c.act.ensures.told

pub returns-in-Ok-clause-behind : goal.returns-in-Ok-clause-behind
returns-in-Ok-clause-behind g c =
    let v = g.Q.Exact.value in
    act_behind v g.Q.Exact.fits (problem_of v c.args.ground.now) (v c.args.time) c.args.line.now.line c.reach.new.line.line c.act.new.self.line c.in-Ok.ensures.comes
    (action_of v c.args.action.now) c.args.number c.act.result c.act.ensures.told

pub returns-in-Ok-clause-halts : goal.returns-in-Ok-clause-halts
returns-in-Ok-clause-halts g c =
    let v = g.Q.Exact.value in
    act_refused v g.Q.Exact.fits (problem_of v c.args.ground.now) (v c.args.time) c.args.line.now.line c.reach.new.line.line c.act.new.self.line c.in-Ok.ensures.comes
    (action_of v c.args.action.now) c.args.number c.act.result c.requires.number c.act.ensures.told

pub returns-in-Err-clause-halts : goal.returns-in-Err-clause-halts
returns-in-Err-clause-halts g c = λ lines L s k.
    let v = g.Q.Exact.value in
    stops_on_way v g.Q.Exact.fits (problem_of v c.args.ground.now) lines (ActLine (v c.args.time) (Instance (action_of v c.args.action.now))) c.args.line.now.line
    c.in-Err.stop L s c.in-Err.ensures.halts k
