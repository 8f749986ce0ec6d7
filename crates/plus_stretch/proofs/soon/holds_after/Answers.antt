use Rattle.plus_state.specs.View.{event_of}
use Rattle.plus_stretch.proofs.SoonLemmas.{soon_pass, soon_stop}
use Rattle.plus_stretch.proofs.soon.holds_after.Goals as goal

pub returns-in-Ok : goal.returns-in-Ok
returns-in-Ok g c = soon_pass _ _ (event_of g.Q.Exact.value c.args.event.now) _ _ _ c.in-Ok.ensures.0 c.in-Ok.ensures.1

pub returns-in-Err-Number : goal.returns-in-Err-Number
returns-in-Err-Number g c = soon_stop _ _ (event_of g.Q.Exact.value c.args.event.now) _ _ _ (rw c.in-Err-Number.field-0-is at c.in-Err-Number.ensures)

pub returns-in-Err-Nonlinear : goal.returns-in-Err-Nonlinear
returns-in-Err-Nonlinear g c = soon_stop _ _ (event_of g.Q.Exact.value c.args.event.now) _ _ _ (rw c.in-Err-Nonlinear.field-0-is at c.in-Err-Nonlinear.ensures)
