use Rattle.std.proofs.Common.{◌<◌, length, sym, ◌∙◌, arith, ◌≤◌}
use Rattle.std.proofs.lemmas.List.{drop_all}
use Rattle.plus_state.specs.Looked.{events_looked}
use Rattle.plus_state.specs.View.{problem_of}
use Rattle.plus_cascade.proofs.FiringLemmas.{all_fit}
use Rattle.plus_settle.proofs.StillLemmas.Listed.{walked_next}
use Rattle.plus_stretch.proofs.Places.{event_here, event_members, event_inside}
use Rattle.plus_stretch.proofs.SoonLemmas.{waiting_inside, waiting_stop, waiting_next, waiting_found, not_yet_start, waiting_at, not_yet_end}
use Rattle.plus_stretch.proofs.soon.momentless.Goals as goal

pub each-init : goal.each-init
each-init g c = not_yet_start _ (problem_of g.Q.Exact.value c.args.ground.now) _ _ _ (all_fit _ _ _ _ c.requires.state c.args.ground.now.fits.events) (event_members g.Q.Exact.value c.args.ground.now _ c.requires.events)

pub index-requires : goal.index-requires
index-requires g c =
    let e = c.member-id.ensures in
    let b : c.member-id.result.0 < length c.args.ground.now.events.items = event_inside g.Q.Exact.value c.args.ground.now _ _ _ _ (rw e at c.each.invariant) in
    omega (arith, c.args.ground.now.events.ok.0)

pub holds_after-requires-clause-fits : goal.holds_after-requires-clause-fits
holds_after-requires-clause-fits g c =
    let e = c.member-id.ensures in
    let b : c.member-id.result.0 < length c.args.ground.now.events.items = event_inside g.Q.Exact.value c.args.ground.now _ _ _ _ (rw e at c.each.invariant) in
    let here = event_here g.Q.Exact.value c.args.ground.now.events.items _ c.index.result.now b c.index.ensures in
    waiting_inside _ _ _ _ _ _ _ (waiting_at _ (problem_of g.Q.Exact.value c.args.ground.now) _ _ _ _ _ _ c.requires.others here (rw e at c.each.invariant))

pub returns-in-Err : goal.returns-in-Err
returns-in-Err g c =
    let e = c.member-id.ensures in
    let b : c.member-id.result.0 < length c.args.ground.now.events.items = event_inside g.Q.Exact.value c.args.ground.now _ _ _ _ (rw e at c.each.invariant) in
    let here = event_here g.Q.Exact.value c.args.ground.now.events.items _ c.index.result.now b c.index.ensures in
    waiting_stop _ _ _ _ _ _ _ (waiting_at _ (problem_of g.Q.Exact.value c.args.ground.now) _ _ _ _ _ _ c.requires.others here (rw e at c.each.invariant)) _ c.in-Err.ensures

pub returns-then-truth : goal.returns-then-truth
returns-then-truth g c =
    let e = c.member-id.ensures in
    let b : c.member-id.result.0 < length c.args.ground.now.events.items = event_inside g.Q.Exact.value c.args.ground.now _ _ _ _ (rw e at c.each.invariant) in
    let here = event_here g.Q.Exact.value c.args.ground.now.events.items _ c.index.result.now b c.index.ensures in
    let t = c.in-Ok.ensures in
    waiting_found _ _ _ _ _ _ _ (waiting_at _ (problem_of g.Q.Exact.value c.args.ground.now) _ _ _ _ _ _ c.requires.others here (rw e at c.each.invariant)) t.0 t.2 here (sym t.1 ∙ c.if-truth.true)

pub each-preserved : goal.each-preserved
each-preserved g c =
    let e = c.member-id.ensures in
    let b : c.member-id.result.0 < length c.args.ground.now.events.items = event_inside g.Q.Exact.value c.args.ground.now _ _ _ _ (rw e at c.each.invariant) in
    let here = event_here g.Q.Exact.value c.args.ground.now.events.items _ c.index.result.now b c.index.ensures in
    let t = c.in-Ok.ensures in
    walked_next _ _ _ _ _ (rw e at c.each.invariant) (waiting_next _ _ _ _ _ _ _ (waiting_at _ (problem_of g.Q.Exact.value c.args.ground.now) _ _ _ _ _ _ c.requires.others here (rw e at c.each.invariant)) t.0 t.2 here (sym t.1 ∙ c.if-truth.false))

pub returns : goal.returns
returns g c =
    let looked = events_looked c.args.events in
    let h : length looked ≤ c.each.place = omega (arith, c.count-place-end.ensures) in
    not_yet_end _ (problem_of g.Q.Exact.value c.args.ground.now) _ _ _ c.requires.others (rw (drop_all c.each.place looked h) at c.each.invariant)
