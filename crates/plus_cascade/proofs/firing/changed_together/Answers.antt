use Rattle.std.proofs.Common.{◌<◌, ap, map, arith, length, get_or}
use Rattle.plus_model.specs.Firing.{effects_of}
use Rattle.plus_state.specs.View.{problem_of}
use Rattle.plus_state.specs.Stops.{due_of}
use Rattle.plus_state.proofs.ApplyLemmas.{add_stops}
use Rattle.plus_state.proofs.ChangesLemmas.{answered}
use Rattle.plus_cascade.specs.Fired.{event_numbers}
use Rattle.plus_cascade.proofs.FiredLemmas.{next_number, no_number}
use Rattle.plus_cascade.proofs.FiringLemmas.{all_fit, below_all, event_fits, effects_here, joining_start, joining_inside, joining_next, joining_stops, joining_end}
use Rattle.plus_cascade.proofs.firing.changed_together.Goals as goal

pub each-init : goal.each-init
each-init g c =
    joining_start _ (problem_of g.Q.Exact.value c.args.ground.now) _ _ _ (ap (map (due_of g.Q.Exact.value)) c.new-due.ensures.items) (below_all g.Q.Exact.value c.args.ground.now _ c.requires.events)

pub index-requires : goal.index-requires
index-requires g c =
    let e = next_number c.args.events.now c.each.event-index (record { 0 = 0 }) c.each-test.true in
    let h : (get_or c.args.events.now c.each.event-index (record { 0 = 0 })).0 < length c.args.ground.now.events.items = joining_inside g.Q.Exact.value _ c.args.ground.now _ _ _ _ _ (rw e at c.each.invariant) in
    omega (arith, h, c.args.ground.now.events.ok.0)

pub add_dues-requires-clause-due : goal.add_dues-requires-clause-due
add_dues-requires-clause-due g c = c.each.invariant.fit

pub add_dues-requires-clause-effects : goal.add_dues-requires-clause-effects
add_dues-requires-clause-effects g c =
    let e = next_number c.args.events.now c.each.event-index (record { 0 = 0 }) c.each-test.true in
    let h : (get_or c.args.events.now c.each.event-index (record { 0 = 0 })).0 < length c.args.ground.now.events.items = joining_inside g.Q.Exact.value _ c.args.ground.now _ _ _ _ _ (rw e at c.each.invariant) in
    rw c.deref.ensures.value (event_fits g.Q.Exact.value _ _ c.args.ground.now.events.items _ c.index.result.now h c.index.ensures (all_fit _ _ _ _ c.requires.state c.args.ground.now.fits.events)).effects

pub returns-in-Err-clause-told : goal.returns-in-Err-clause-told
returns-in-Err-clause-told g c =
    let e = next_number c.args.events.now c.each.event-index (record { 0 = 0 }) c.each-test.true in
    let h : (get_or c.args.events.now c.each.event-index (record { 0 = 0 })).0 < length c.args.ground.now.events.items = joining_inside g.Q.Exact.value _ c.args.ground.now _ _ _ _ _ (rw e at c.each.invariant) in
    let k = effects_here g.Q.Exact.value c.args.ground.now.events.items _ c.index.result.now h c.index.ensures in
    add_stops _ _ _ _ c.in-Err.stop (joining_stops g.Q.Exact.value _ _ _ _ _ _ _ _ (rw e at c.each.invariant) k c.in-Err.stop (rw c.deref.ensures.value at c.in-Err.ensures.added))

pub each-preserved : goal.each-preserved
each-preserved g c =
    let e = next_number c.args.events.now c.each.event-index (record { 0 = 0 }) c.each-test.true in
    let h : (get_or c.args.events.now c.each.event-index (record { 0 = 0 })).0 < length c.args.ground.now.events.items = joining_inside g.Q.Exact.value _ c.args.ground.now _ _ _ _ _ (rw e at c.each.invariant) in
    let k = effects_here g.Q.Exact.value c.args.ground.now.events.items _ c.index.result.now h c.index.ensures in
    joining_next _ _ _ _ _ _ _ _ (rw e at c.each.invariant) k _ c.add_dues.ensures.fit (rw c.deref.ensures.value at c.in-Ok.ensures.added.0) (rw c.deref.ensures.value at c.in-Ok.ensures.added.1)

pub changes_by-requires : goal.changes_by-requires
changes_by-requires g c = rw c.deref-2.ensures.value c.each.invariant.fit

pub returns-clause-told : goal.returns-clause-told
returns-clause-told g c =
    let j = joining_end _ _ _ _ _ (rw (no_number c.args.events.now c.each.event-index c.each-test.false) at c.each.invariant) in
    answered g.Q.Exact.value g.Q.Exact.fits (effects_of (problem_of g.Q.Exact.value c.args.ground.now) (event_numbers c.args.events.now)) c.args.state.now _ c.changes_by.result j.0 j.1 (rw c.deref-2.ensures.value at c.changes_by.ensures.does)
