use Rattle.std.proofs.Common.{◌≤◌, ℕ, arith, map, length, sym, subst}
use Rattle.std.specs.Prelude.{IfOk}
use Rattle.plus_fraction.specs.Fraction.{◌+ℚ◌}
use Rattle.plus_state.specs.View.{problem_of, action_of}
use Rattle.plus_stretch.specs.Tests.{AllPass}
use Rattle.plus_timeline.specs.Asked.{round_tests}
use Rattle.plus_timeline.specs.Finish.{IsPaused}
use Rattle.plus_planner.specs.Standing.{CanReach}
use Rattle.plus_planner.specs.Places.{task_from, now_in, base_in, WaitEnds}
use Rattle.plus_planner.proofs.PlaceLemmas.{slice_none, act_can, act_passed, act_walks, wait_reach, wait_paused, wait_passed, wait_walks}
use Rattle.plus_planner.proofs.DecidingLemmas.{action_at, full, inside}
use Rattle.plus_planner.proofs.deciding.decide.Goals as goal

pub act-requires-clause-can : goal.act-requires-clause-can
act-requires-clause-can g c =
    let v = g.Q.Exact.value in
    let task = task_from (problem_of v c.args.ground.now) (map (action_of v) c.args.actions.now) (v c.args.interval) in
    act_can g.Q.Exact.fits task c.args.place.now.start c.args.place.now.taken.items c.requires.stands c.args.decision (action_of v c.index-actions-number.result)
    (action_at (action_of v) c.args.actions.now c.args.decision c.index-actions-number.result c.if-number-actions.true c.index-actions-number.is)

pub act-requires-clause-passed : goal.act-requires-clause-passed
act-requires-clause-passed g c =
    let v = g.Q.Exact.value in
    act_passed g.Q.Exact.fits (task_from (problem_of v c.args.ground.now) (map (action_of v) c.args.actions.now) (v c.args.interval)) c.args.place.now.start c.args.place.now.taken.items c.requires.stands

pub wait-requires-clause-reach : goal.wait-requires-clause-reach
wait-requires-clause-reach g c =
    let v = g.Q.Exact.value in
    let P = problem_of v c.args.ground.now in
    let actions = map (action_of v) c.args.actions.now in
    let task = task_from P actions (v c.args.interval) in
    let start = c.args.place.now.start in
    let taken = c.args.place.now.taken.items in
    let same = full (action_of v) c.args.actions.now c.args.decision c.if-number-actions.false c.requires.within in
    subst (λ n. CanReach P ((now_in start taken).now.time +ℚ v c.args.interval) (base_in n start taken)) (sym same)
    (wait_reach g.Q.Exact.fits task start taken c.requires.stands c.args.decision
    (slice_none actions c.args.decision (subst (λ n. length actions ≤ n) (sym same) (self_le (length actions)))))
  where
    self_le : (n : ℕ) → n ≤ n
    self_le n = omega arith

pub wait-requires-clause-paused : goal.wait-requires-clause-paused
wait-requires-clause-paused g c =
    let v = g.Q.Exact.value in
    let P = problem_of v c.args.ground.now in
    let actions = map (action_of v) c.args.actions.now in
    let task = task_from P actions (v c.args.interval) in
    let start = c.args.place.now.start in
    let taken = c.args.place.now.taken.items in
    let same = full (action_of v) c.args.actions.now c.args.decision c.if-number-actions.false c.requires.within in
    subst (λ n. IsPaused (base_in n start taken)) (sym same)
    (wait_paused g.Q.Exact.fits task start taken c.requires.stands c.args.decision
    (slice_none actions c.args.decision (subst (λ n. length actions ≤ n) (sym same) (self_le (length actions)))))
  where
    self_le : (n : ℕ) → n ≤ n
    self_le n = omega arith

pub wait-requires-clause-passed : goal.wait-requires-clause-passed
wait-requires-clause-passed g c =
    let v = g.Q.Exact.value in
    let P = problem_of v c.args.ground.now in
    let actions = map (action_of v) c.args.actions.now in
    let task = task_from P actions (v c.args.interval) in
    let start = c.args.place.now.start in
    let taken = c.args.place.now.taken.items in
    let same = full (action_of v) c.args.actions.now c.args.decision c.if-number-actions.false c.requires.within in
    subst (λ n. AllPass g.Q.Exact.fits (round_tests P (base_in n start taken).now.fired (base_in n start taken).now.state)) (sym same)
    (wait_passed g.Q.Exact.fits task start taken c.requires.stands c.args.decision
    (slice_none actions c.args.decision (subst (λ n. length actions ≤ n) (sym same) (self_le (length actions)))))
  where
    self_le : (n : ℕ) → n ≤ n
    self_le n = omega arith

pub returns-then-number-actions-clause-walks : goal.returns-then-number-actions-clause-walks
returns-then-number-actions-clause-walks g c =
    let v = g.Q.Exact.value in
    let task = task_from (problem_of v c.args.ground.now) (map (action_of v) c.args.actions.now) (v c.args.interval) in
    act_walks g.Q.Exact.fits task c.args.place.now.start c.args.place.now.taken.items c.requires.stands c.args.decision (action_of v c.index-actions-number.result)
    c.act.new.place.start c.act.new.place.taken.items c.act.result
    (inside (action_of v) c.args.actions.now c.args.decision c.requires.within)
    (action_at (action_of v) c.args.actions.now c.args.decision c.index-actions-number.result c.if-number-actions.true c.index-actions-number.is)
    c.act.ensures.start c.act.ensures.ends

pub returns-else-number-actions-clause-walks : goal.returns-else-number-actions-clause-walks
returns-else-number-actions-clause-walks g c =
    let v = g.Q.Exact.value in
    let P = problem_of v c.args.ground.now in
    let actions = map (action_of v) c.args.actions.now in
    let task = task_from P actions (v c.args.interval) in
    let start = c.args.place.now.start in
    let taken = c.args.place.now.taken.items in
    let same = full (action_of v) c.args.actions.now c.args.decision c.if-number-actions.false c.requires.within in
    wait_walks g.Q.Exact.fits task start taken c.requires.stands c.args.decision
    (slice_none actions c.args.decision (subst (λ n. length actions ≤ n) (sym same) (self_le (length actions))))
    c.wait.new.place.start c.wait.new.place.taken.items c.wait.result
    (inside (action_of v) c.args.actions.now c.args.decision c.requires.within)
    c.wait.ensures.start
    (subst (λ n. IfOk c.wait.result (WaitEnds g.Q.Exact.fits P ((now_in start taken).now.time +ℚ v c.args.interval) c.args.decision (base_in n start taken) taken c.wait.new.place.taken.items)) same c.wait.ensures.ends)
  where
    self_le : (n : ℕ) → n ≤ n
    self_le n = omega arith
