use Rattle.plus_state.specs.View.{problem_of}
use Rattle.plus_settle.proofs.SettlesLemmas.{holding_stop}
use Rattle.plus_indexed.proofs.Present.{those_hold, kept_present}
use Rattle.plus_indexed.proofs.kept.Kept.settled.Goals as goal

pub returns-in-Err-clause-told : goal.returns-in-Err-clause-told
returns-in-Err-clause-told g c = holding_stop g.Q.Exact.value _ (problem_of g.Q.Exact.value c.args.ground.now) _ c.in-Err.stop c.in-Err.ensures.told

pub returns-in-Ok-clause-processes : goal.returns-in-Ok-clause-processes
returns-in-Ok-clause-processes g c =
    let P = problem_of g.Q.Exact.value c.args.ground.now in
    let s = c.args.timeline.now.now.state in
    let told = c.in-Ok.ensures.told in
    kept_present g.Q.Exact.fits P s c.put_waiting.new.waiting c.deref.result.now c.present.new.members.items c.put_waiting.ensures c.deref.ensures.value
    (those_hold g.Q.Exact.fits P s _ told.0 told.1)
