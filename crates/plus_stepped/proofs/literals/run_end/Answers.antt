use Rattle.std.proofs.Common.{◌+◌, drop, map, get_or, arith, ap, ◌∙◌}
use Rattle.plus_state.specs.View.{timed_of}
use Rattle.plus_stepped.specs.Grid.{run_of}
use Rattle.plus_stepped.proofs.LiteralLemmas.{drop_here, read_at, run_more, run_over}
use Rattle.plus_stepped.proofs.literals.run_end.Goals as goal

pub loop-place-preserved : goal.loop-place-preserved
loop-place-preserved g c =
    let t = g.Q.Exact.value c.args.time in
    let x = get_or c.args.timed.now c.loop-place.place c.index-timed-place.result in
    let is = read_at (timed_of g.Q.Exact.value) c.args.timed.now c.loop-place.place c.index-timed-place.result c.index-timed-place.is in
    let e = drop_here (timed_of g.Q.Exact.value) c.args.timed.now c.loop-place.place x c.loop-place-test.true is in
    let r = ap (run_of t) e ∙ run_more t (timed_of g.Q.Exact.value x) (drop (c.loop-place.place + 1) (map (timed_of g.Q.Exact.value) c.args.timed.now)) c.if-is_equal.ensures in
    let so_far = c.loop-place.invariant.so_far in
    record { inside = omega arith; so_far = omega arith }

pub returns-else-is_equal-clause-end : goal.returns-else-is_equal-clause-end
returns-else-is_equal-clause-end g c =
    let t = g.Q.Exact.value c.args.time in
    let x = get_or c.args.timed.now c.loop-place.place c.index-timed-place.result in
    let is = read_at (timed_of g.Q.Exact.value) c.args.timed.now c.loop-place.place c.index-timed-place.result c.index-timed-place.is in
    let e = drop_here (timed_of g.Q.Exact.value) c.args.timed.now c.loop-place.place x c.loop-place-test.true is in
    let r = ap (run_of t) e ∙ run_over t (timed_of g.Q.Exact.value x) (drop (c.loop-place.place + 1) (map (timed_of g.Q.Exact.value) c.args.timed.now)) c.if-is_equal.ensures in
    let so_far = c.loop-place.invariant.so_far in
    omega arith
