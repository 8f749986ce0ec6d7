use Rattle.std.proofs.Common.{length, ap, ◌∙◌}
use Rattle.plus_state.specs.Numbers.{event_numbers, process_numbers}
use Rattle.plus_state.specs.View.{problem_of}
use Rattle.plus_state.specs.Walk.{event_conditions, process_conditions}
use Rattle.plus_crossing.specs.Rated.{moving_of}
use Rattle.plus_indexed.specs.Indexed.{Kept}
use Rattle.plus_indexed.proofs.MovingLemmas.{events_now, processes_now}
use Rattle.plus_indexed.proofs.Knowing.{events_still, events_silent, processes_still}
use Rattle.plus_indexed.proofs.kept.Kept.pass.Goals as goal

pub pass-requires-clause-known : goal.pass-requires-clause-known
pass-requires-clause-known g c =
    let P = problem_of g.Q.Exact.value c.args.ground.now in
    let l = c.args.timeline.now in let k = c.args.self.now in let now = c.refresh.new.self in
    let index = c.refresh.ensures.index ∙ ap (λ (x : Kept). x.index) c.self.view_is in
    let moving = c.in-Ok.ensures.moving ∙ ap moving_of c.rates.ensures in
    let es = events_now now.index k.index now.moving (moving_of l.rates) (event_numbers c.events.result.now) index moving c.events.ensures in
    let ps = processes_now now.index k.index now.moving (moving_of l.rates) (process_numbers c.processes.result.now) index moving c.processes.ensures in
    let rest = c.requires.knows.rests l.running c.requires.runs in
    record {
      event_members = es.members (length (event_conditions P)) c.requires.knows.index.events_below;
      process_members = ps.members (length (process_conditions P)) c.requires.knows.index.processes_below;
      events_still = events_still g.Q.Exact.fits P l.now.state l.rates k.index (event_numbers c.events.result.now) c.requires.knows.index rest es;
      events_silent = events_silent g.Q.Exact.fits P l.now.state (event_numbers c.events.result.now) rest;
      processes_still = processes_still g.Q.Exact.fits P l.now.state l.rates k.index (process_numbers c.processes.result.now) c.requires.knows.index rest ps;
    }
