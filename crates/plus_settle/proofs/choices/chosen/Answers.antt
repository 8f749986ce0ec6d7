use Rattle.std.proofs.Common.{◌<◌, ◌≤◌, length, arith, ap}
use Rattle.std.proofs.lemmas.List.{length-map}
use Rattle.plus_state.specs.View.{process_of, problem_of}
use Rattle.plus_state.proofs.TestsLemmas.{next_member, no_member}
use Rattle.plus_settle.specs.Members.{process_numbers}
use Rattle.plus_settle.proofs.MembersLemmas.{all_fit, process_here}
use Rattle.plus_settle.proofs.ChoicesLemmas.{choosing_start, choosing_inside, choosing_stops, choosing_next, choosing_end}
use Rattle.plus_settle.proofs.choices.chosen.Goals as goal

pub each-init : goal.each-init
each-init g c = choosing_start _ (problem_of g.Q.Exact.value c.args.ground.now) _ _ _ (ap process_numbers c.new-members.ensures.items) (all_fit _ _ _ _ c.requires.state c.args.ground.now.fits.processes)

pub runs_after-requires-clause-fits : goal.runs_after-requires-clause-fits
runs_after-requires-clause-fits g c =
    let h : c.each.number < length c.args.ground.now.processes.items = omega (arith, c.args.ground.now.processes.ok.0) in
    let e = next_member (process_of g.Q.Exact.value) c.args.ground.now.processes.items c.each.number c.index.result.now h c.index.ensures in
    choosing_inside _ _ _ _ _ _ _ _ (rw e at c.each.invariant)

pub returns-in-Err : goal.returns-in-Err
returns-in-Err g c =
    let h : c.each.number < length c.args.ground.now.processes.items = omega (arith, c.args.ground.now.processes.ok.0) in
    let e = next_member (process_of g.Q.Exact.value) c.args.ground.now.processes.items c.each.number c.index.result.now h c.index.ensures in
    rw c.settle_stop.ensures (choosing_stops _ _ _ _ _ _ _ _ (rw e at c.each.invariant) g.Q.Exact.value c.in-Err.stop c.in-Err.ensures)

pub each-preserved : goal.each-preserved
each-preserved g c =
    let h : c.each.number < length c.args.ground.now.processes.items = omega (arith, c.args.ground.now.processes.ok.0) in
    let e = next_member (process_of g.Q.Exact.value) c.args.ground.now.processes.items c.each.number c.index.result.now h c.index.ensures in
    let here = process_here g.Q.Exact.value c.args.ground.now.processes.items _ c.index.result.now h c.index.ensures in
    choosing_next _ _ _ _ _ _ _ _ (rw e at c.each.invariant) _ _ c.in-Ok.ensures.0 c.in-Ok.ensures.1 c.in-Ok.ensures.2 here c.in-Ok-append_if.ensures

pub returns : goal.returns
returns g c =
    let h : length c.args.ground.now.processes.items ≤ c.each.number = omega (arith, c.args.ground.now.processes.ok.0) in
    choosing_end _ (problem_of g.Q.Exact.value c.args.ground.now) _ _ _ _ (rw (no_member (process_of g.Q.Exact.value) c.args.ground.now.processes.items c.each.number h) at c.each.invariant) (rw length-map h)
