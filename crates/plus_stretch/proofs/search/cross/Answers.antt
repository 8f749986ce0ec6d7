use Rattle.plus_state.specs.View.{problem_of}
use Rattle.plus_settle.proofs.MembersLemmas.{are_members}
use Rattle.plus_stretch.proofs.Places.{event_members, event_members_back, process_members_back}
use Rattle.plus_stretch.proofs.LookedLemmas.{looked_members}
use Rattle.plus_stretch.proofs.WalkLemmas.{event_below, process_below}
use Rattle.plus_stretch.proofs.search.cross.Goals as goal

pub at_root-requires-clause-events : goal.at_root-requires-clause-events
at_root-requires-clause-events g c =
    event_members_back g.Q.Exact.value c.args.ground.now _ (rw c.deref.ensures.value (looked_members _ _ _ _ c.in-Ok.ensures.events_rise c.in-Ok.ensures.events (event_members g.Q.Exact.value c.args.ground.now _ c.requires.events) (λ k i. event_below (problem_of g.Q.Exact.value c.args.ground.now) _ k c.requires.owners i)))

pub at_root-requires-clause-processes : goal.at_root-requires-clause-processes
at_root-requires-clause-processes g c =
    process_members_back g.Q.Exact.value c.args.ground.now _ (rw c.deref-in-Ok.ensures.value (looked_members _ _ _ _ c.in-Ok.ensures.processes_rise c.in-Ok.ensures.processes (are_members g.Q.Exact.value c.args.ground.now _ c.requires.processes) (λ k i. process_below (problem_of g.Q.Exact.value c.args.ground.now) _ k c.requires.owners i)))

pub at_root-requires-clause-others : goal.at_root-requires-clause-others
at_root-requires-clause-others g c = rw (c.deref.ensures.value, c.deref-in-Ok.ensures.value) (c.requires.others _ _ c.in-Ok.ensures.events c.in-Ok.ensures.processes)
