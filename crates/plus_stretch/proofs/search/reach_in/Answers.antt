use Rattle.std.proofs.Common.{refl}
use Rattle.std.proofs.lemmas.Result.{err_from_is_err_and}
use Rattle.plus_state.specs.View.{problem_of}
use Rattle.plus_state.proofs.LookingLemmas.{event_places, process_places}
use Rattle.plus_stretch.proofs.SearchLemmas.{halt_soon, halt_time, halt_roots, walk_tells, along_start}
use Rattle.plus_state.specs.Walk.{event_conditions, process_conditions}
use Rattle.plus_stretch.proofs.Known.{none_soon_among, no_root_among}
use Rattle.plus_stretch.proofs.LookedLemmas.{sifted_members, others_simple}
use Rattle.plus_stretch.proofs.search.reach_in.Goals as goal

pub none_soon-requires-clause-events : goal.none_soon-requires-clause-events
none_soon-requires-clause-events g c = event_places g.Q.Exact.value c.args.ground.now _ c.requires.known.event_members

pub roots-requires-clause-events : goal.roots-requires-clause-events
roots-requires-clause-events g c = event_places g.Q.Exact.value c.args.ground.now _ c.requires.known.event_members

pub roots-requires-clause-processes : goal.roots-requires-clause-processes
roots-requires-clause-processes g c = process_places g.Q.Exact.value c.args.ground.now _ c.requires.known.process_members

pub everywhere-requires-clause-events : goal.everywhere-requires-clause-events
everywhere-requires-clause-events g c = event_places g.Q.Exact.value c.args.ground.now _ c.requires.known.event_members

pub everywhere-requires-clause-processes : goal.everywhere-requires-clause-processes
everywhere-requires-clause-processes g c = process_places g.Q.Exact.value c.args.ground.now _ c.requires.known.process_members

pub none_soon-requires-clause-others : goal.none_soon-requires-clause-others
none_soon-requires-clause-others g c = none_soon_among _ g.met.Q.Exact.zero_fits (problem_of g.Q.Exact.value c.args.ground.now) _ _ _ c.requires.known.events_still c.requires.known.events_silent

pub roots-requires-clause-other_events : goal.roots-requires-clause-other_events
roots-requires-clause-other_events g c = no_root_among _ g.met.Q.Exact.zero_fits (problem_of g.Q.Exact.value c.args.ground.now) _ _ _ _ c.requires.known.events_still

pub roots-requires-clause-other_processes : goal.roots-requires-clause-other_processes
roots-requires-clause-other_processes g c = no_root_among _ g.met.Q.Exact.zero_fits (problem_of g.Q.Exact.value c.args.ground.now) _ _ _ _ c.requires.known.processes_still

pub returns-in_err-none_soon-clause-told : goal.returns-in_err-none_soon-clause-told
returns-in_err-none_soon-clause-told g c =
    let p = err_from_is_err_and c.from_residual.result c.from_residual.ensures.1 in
    rw (p.1, p.2) (halt_soon (problem_of g.Q.Exact.value c.args.ground.now) _ _ _ _ _ c.requires.rates g.Q.Exact.value _ _ c.requires.later c.in_err-none_soon.ensures)

pub returns-in_err-length-clause-told : goal.returns-in_err-length-clause-told
returns-in_err-length-clause-told g c =
    let p = err_from_is_err_and c.from_residual-in_err-length.result c.from_residual-in_err-length.ensures.1 in
    let n = c.in_ok-none_soon.ensures in
    rw (p.1, p.2) (halt_time (problem_of g.Q.Exact.value c.args.ground.now) _ _ _ _ _ c.requires.rates g.Q.Exact.value _ n.1 n.0 _ c.in_err-length.ensures)

pub returns-in_err-roots-clause-told : goal.returns-in_err-roots-clause-told
returns-in_err-roots-clause-told g c =
    let p = err_from_is_err_and c.from_residual-in_err-roots.result c.from_residual-in_err-roots.ensures.1 in
    let n = c.in_ok-none_soon.ensures in
    rw (p.1, p.2) (halt_roots (problem_of g.Q.Exact.value c.args.ground.now) _ _ _ _ _ c.requires.rates g.Q.Exact.value _ n.1 n.0 c.in_ok-length.ensures.0 _ c.in_err-roots.ensures)

pub along_roots-requires-clause-none : goal.along_roots-requires-clause-none
along_roots-requires-clause-none g c = c.in_ok-none_soon.ensures.1.none

pub along_roots-requires-clause-events : goal.along_roots-requires-clause-events
along_roots-requires-clause-events g c = sifted_members (event_conditions (problem_of g.Q.Exact.value c.args.ground.now)) c.args.running.now.rates _ _ _ (event_places g.Q.Exact.value c.args.ground.now _ c.requires.known.event_members) c.in-Ok.ensures.events

pub along_roots-requires-clause-processes : goal.along_roots-requires-clause-processes
along_roots-requires-clause-processes g c = sifted_members (process_conditions (problem_of g.Q.Exact.value c.args.ground.now)) c.args.running.now.rates _ _ _ (process_places g.Q.Exact.value c.args.ground.now _ c.requires.known.process_members) c.in-Ok.ensures.processes

pub along_roots-requires-clause-simple_events : goal.along_roots-requires-clause-simple_events
along_roots-requires-clause-simple_events g c = others_simple (event_conditions (problem_of g.Q.Exact.value c.args.ground.now)) c.args.running.now.rates _ _ c.requires.known.events_still.stand c.in-Ok.ensures.events

pub along_roots-requires-clause-simple_processes : goal.along_roots-requires-clause-simple_processes
along_roots-requires-clause-simple_processes g c = others_simple (process_conditions (problem_of g.Q.Exact.value c.args.ground.now)) c.args.running.now.rates _ _ c.requires.known.processes_still.stand c.in-Ok.ensures.processes

pub along_roots-requires-clause-along : goal.along_roots-requires-clause-along
along_roots-requires-clause-along g c = along_start _ _ _ c.requires.ahead

pub returns-in-Ok-clause-told : goal.returns-in-Ok-clause-told
returns-in-Ok-clause-told g c =
    let n = c.in_ok-none_soon.ensures in
    walk_tells (problem_of g.Q.Exact.value c.args.ground.now) _ _ _ _ _ c.requires.rates g.Q.Exact.value _ n.1 n.0 c.in_ok-length.ensures.0 c.in_ok-roots.ensures.0 _ _ _ _ c.in_ok-length.ensures.1 refl c.in_ok-roots.ensures.1.roots c.along_roots.ensures.told

pub returns-in_err-none_soon-clause-along : goal.returns-in_err-none_soon-clause-along
returns-in_err-none_soon-clause-along g c = along_start _ _ _ c.requires.ahead

pub returns-in_err-length-clause-along : goal.returns-in_err-length-clause-along
returns-in_err-length-clause-along g c = along_start _ _ _ c.requires.ahead

pub returns-in_err-roots-clause-along : goal.returns-in_err-roots-clause-along
returns-in_err-roots-clause-along g c = along_start _ _ _ c.requires.ahead

pub returns-in-Err-clause-along : goal.returns-in-Err-clause-along
returns-in-Err-clause-along g c = along_start _ _ _ c.requires.ahead
