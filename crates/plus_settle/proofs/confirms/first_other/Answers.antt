use Rattle.std.proofs.Common.{◌<◌, length, ap₂, sym, ◌∙◌, arith, ◌≤◌}
use Rattle.std.proofs.lemmas.List.{drop_all}
use Rattle.plus_state.specs.Looked.{processes_looked}
use Rattle.plus_state.specs.View.{problem_of}
use Rattle.plus_settle.specs.Confirms.{differ}
use Rattle.plus_settle.proofs.StillLemmas.Listed.{walked_next}
use Rattle.plus_settle.proofs.MembersLemmas.{all_fit, process_here, are_members}
use Rattle.plus_settle.proofs.ConfirmsLemmas.{confirming_inside, confirming_stops, confirming_next, confirming_found}
use Rattle.plus_settle.proofs.AmongLemmas.{agreeing_start, agreeing_end, confirming_at, listed_inside}
use Rattle.plus_settle.proofs.confirms.first_other.Goals as goal

pub each-init : goal.each-init
each-init g c = agreeing_start _ (problem_of g.Q.Exact.value c.args.ground.now) _ _ _ _ (all_fit _ _ _ _ c.requires.state c.args.ground.now.fits.processes) (are_members g.Q.Exact.value c.args.ground.now _ c.requires.looked)

pub index-requires : goal.index-requires
index-requires g c =
    let e = c.member-id.ensures in
    let b : c.member-id.result.0 < length c.args.ground.now.processes.items = listed_inside g.Q.Exact.value c.args.ground.now _ _ _ _ (rw e at c.each.invariant) in
    omega (arith, c.args.ground.now.processes.ok.0)

pub runs_after-requires-clause-fits : goal.runs_after-requires-clause-fits
runs_after-requires-clause-fits g c =
    let e = c.member-id.ensures in
    let b : c.member-id.result.0 < length c.args.ground.now.processes.items = listed_inside g.Q.Exact.value c.args.ground.now _ _ _ _ (rw e at c.each.invariant) in
    let here = process_here g.Q.Exact.value c.args.ground.now.processes.items _ c.index.result.now b c.index.ensures in
    confirming_inside _ _ _ _ _ _ _ _ (confirming_at _ (problem_of g.Q.Exact.value c.args.ground.now) _ _ _ _ _ _ _ c.requires.others here (rw e at c.each.invariant))

pub returns-in-Err : goal.returns-in-Err
returns-in-Err g c =
    let e = c.member-id.ensures in
    let b : c.member-id.result.0 < length c.args.ground.now.processes.items = listed_inside g.Q.Exact.value c.args.ground.now _ _ _ _ (rw e at c.each.invariant) in
    let here = process_here g.Q.Exact.value c.args.ground.now.processes.items _ c.index.result.now b c.index.ensures in
    confirming_stops _ _ _ _ _ _ _ _ (confirming_at _ (problem_of g.Q.Exact.value c.args.ground.now) _ _ _ _ _ _ _ c.requires.others here (rw e at c.each.invariant)) g.Q.Exact.value c.in-Err.stop c.in-Err.ensures

pub returns-then-differ : goal.returns-then-differ
returns-then-differ g c =
    let e = c.member-id.ensures in
    let b : c.member-id.result.0 < length c.args.ground.now.processes.items = listed_inside g.Q.Exact.value c.args.ground.now _ _ _ _ (rw e at c.each.invariant) in
    let here = process_here g.Q.Exact.value c.args.ground.now.processes.items _ c.index.result.now b c.index.ensures in
    let t = c.in-Ok.ensures in
    let d = sym (ap₂ differ t.1 c.is_member.ensures) ∙ sym c.differ.ensures ∙ c.if-differ.true in
    confirming_found _ _ _ _ _ _ _ _ (confirming_at _ (problem_of g.Q.Exact.value c.args.ground.now) _ _ _ _ _ _ _ c.requires.others here (rw e at c.each.invariant)) t.0 t.2 here d

pub each-preserved : goal.each-preserved
each-preserved g c =
    let e = c.member-id.ensures in
    let b : c.member-id.result.0 < length c.args.ground.now.processes.items = listed_inside g.Q.Exact.value c.args.ground.now _ _ _ _ (rw e at c.each.invariant) in
    let here = process_here g.Q.Exact.value c.args.ground.now.processes.items _ c.index.result.now b c.index.ensures in
    let t = c.in-Ok.ensures in
    let d = sym (ap₂ differ t.1 c.is_member.ensures) ∙ sym c.differ.ensures ∙ c.if-differ.false in
    walked_next _ _ _ _ _ (rw e at c.each.invariant) (confirming_next _ _ _ _ _ _ _ _ (confirming_at _ (problem_of g.Q.Exact.value c.args.ground.now) _ _ _ _ _ _ _ c.requires.others here (rw e at c.each.invariant)) t.0 t.2 here d)

pub returns : goal.returns
returns g c =
    let looked = processes_looked c.args.looked in
    let h : length looked ≤ c.each.place = omega (arith, c.count-place-end.ensures) in
    agreeing_end _ (problem_of g.Q.Exact.value c.args.ground.now) _ _ _ _ c.requires.others (rw (drop_all c.each.place looked h) at c.each.invariant) (are_members g.Q.Exact.value c.args.ground.now _ c.requires.members)
