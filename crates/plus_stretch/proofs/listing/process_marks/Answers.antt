use Rattle.std.proofs.Common.{◌<◌, length, refl, arith, ◌≤◌}
use Rattle.std.proofs.lemmas.List.{drop_all}
use Rattle.plus_model.specs.Terms.{Process}
use Rattle.plus_state.specs.Looked.{processes_looked}
use Rattle.plus_state.specs.View.{problem_of}
use Rattle.plus_settle.proofs.StillLemmas.Listed.{walked_on}
use Rattle.plus_stretch.specs.Tests.{process}
use Rattle.plus_settle.proofs.MembersLemmas.{all_fit, process_here, are_members}
use Rattle.plus_settle.proofs.AmongLemmas.{listed_inside}
use Rattle.plus_stretch.proofs.Collecting.{collecting_inside, collecting_stop}
use Rattle.plus_stretch.proofs.Marking.{marking_start, marking_next, marking_at, marking_collecting, marking_end}
use Rattle.plus_stretch.proofs.listing.process_marks.Goals as goal

pub each-init : goal.each-init
each-init g c = marking_start _ _ process (λ (x : Process). x.condition) _ _ _ (problem_of g.Q.Exact.value c.args.ground.now).processes _ (all_fit _ _ _ _ c.requires.state c.args.ground.now.fits.processes) (are_members g.Q.Exact.value c.args.ground.now _ c.requires.processes)

pub index-requires : goal.index-requires
index-requires g c =
    let e = c.member-id.ensures in
    let b : c.member-id.result.0 < length c.args.ground.now.processes.items = listed_inside g.Q.Exact.value c.args.ground.now _ _ _ _ (rw e at c.each.invariant) in
    omega (arith, c.args.ground.now.processes.ok.0)

pub roots_into-requires-clause-fits : goal.roots_into-requires-clause-fits
roots_into-requires-clause-fits g c =
    let e = c.member-id.ensures in
    let b : c.member-id.result.0 < length c.args.ground.now.processes.items = listed_inside g.Q.Exact.value c.args.ground.now _ _ _ _ (rw e at c.each.invariant) in
    let here = process_here g.Q.Exact.value c.args.ground.now.processes.items _ c.index.result.now b c.index.ensures in
    (collecting_inside _ _ _ _ _ _ _ _ _ _ _ _ (marking_collecting _ _ process (λ (x : Process). x.condition) _ _ _ (problem_of g.Q.Exact.value c.args.ground.now).processes _ _ _ _ _ c.requires.others here (rw e at c.each.invariant))).condition

pub roots_into-requires-clause-few : goal.roots_into-requires-clause-few
roots_into-requires-clause-few g c =
    let e = c.member-id.ensures in
    let b : c.member-id.result.0 < length c.args.ground.now.processes.items = listed_inside g.Q.Exact.value c.args.ground.now _ _ _ _ (rw e at c.each.invariant) in
    let here = process_here g.Q.Exact.value c.args.ground.now.processes.items _ c.index.result.now b c.index.ensures in
    (collecting_inside _ _ _ _ _ _ _ _ _ _ _ _ (marking_collecting _ _ process (λ (x : Process). x.condition) _ _ _ (problem_of g.Q.Exact.value c.args.ground.now).processes _ _ _ _ _ c.requires.others here (rw e at c.each.invariant))).few

pub returns-in-Err : goal.returns-in-Err
returns-in-Err g c =
    let e = c.member-id.ensures in
    let b : c.member-id.result.0 < length c.args.ground.now.processes.items = listed_inside g.Q.Exact.value c.args.ground.now _ _ _ _ (rw e at c.each.invariant) in
    let here = process_here g.Q.Exact.value c.args.ground.now.processes.items _ c.index.result.now b c.index.ensures in
    rw c.root_halt.ensures (collecting_stop _ _ _ _ _ _ _ _ _ _ _ _ (marking_collecting _ _ process (λ (x : Process). x.condition) _ _ _ (problem_of g.Q.Exact.value c.args.ground.now).processes _ _ _ _ _ c.requires.others here (rw e at c.each.invariant)) g.Q.Exact.value _ c.in-Err.stop refl c.in-Err.ensures)

pub each-preserved : goal.each-preserved
each-preserved g c =
    let e = c.member-id.ensures in
    let b : c.member-id.result.0 < length c.args.ground.now.processes.items = listed_inside g.Q.Exact.value c.args.ground.now _ _ _ _ (rw e at c.each.invariant) in
    let here = process_here g.Q.Exact.value c.args.ground.now.processes.items _ c.index.result.now b c.index.ensures in
    walked_on _ _ _ _ _ (rw e at c.each.invariant) _ (marking_next _ _ process (λ (x : Process). x.condition) _ _ _ (problem_of g.Q.Exact.value c.args.ground.now).processes g.Q.Exact.value c.roots_into.new.into.items _ _ _ _ here
    (marking_at _ _ process (λ (x : Process). x.condition) _ _ _ (problem_of g.Q.Exact.value c.args.ground.now).processes _ _ _ _ c.requires.others (rw e at c.each.invariant)) c.in-Ok.ensures.0
    (rw c.clear.ensures.items at c.in-Ok.ensures.1) (rw c.deref.ensures.value at c.in-Ok-mark_all.ensures))

pub returns : goal.returns
returns g c =
    let looked = processes_looked c.args.processes in
    let h : length looked ≤ c.each.place = omega (arith, c.count-place-end.ensures) in
    marking_end _ _ process (λ (x : Process). x.condition) _ _ _ (problem_of g.Q.Exact.value c.args.ground.now).processes _ _ c.requires.others (rw (drop_all c.each.place looked h) at c.each.invariant)
