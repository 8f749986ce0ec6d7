use Rattle.std.proofs.Common.{◌<◌, length, map, get_or, arith}
use Rattle.std.proofs.lemmas.List.{length-map}
use Rattle.plus_model.specs.Terms.{Timed}
use Rattle.plus_state.specs.View.{timed_of}
use Rattle.plus_stepped.specs.Grid.{OnGrid}
use Rattle.plus_stepped.proofs.LiteralLemmas.{drop_here, drop_end, read_at, all_here, first_at, from_here, past_here, next_none, next_later, next_now}
use Rattle.plus_stepped.proofs.literals.next_literal.Goals as goal

pub returns-then-place-timed-clause-next : goal.returns-then-place-timed-clause-next
returns-then-place-timed-clause-next g c n h =
    let ls = map (timed_of g.Q.Exact.value) c.args.timed.now in
    let e = drop_end (timed_of g.Q.Exact.value) c.args.timed.now c.args.place (omega arith) in
    next_none (g.Q.Exact.value c.args.interval) c.requires.above ls c.requires.in_time n c.args.place c.args.ticks e h

pub returns-then-ticks-gt1-clause-next : goal.returns-then-ticks-gt1-clause-next
returns-then-ticks-gt1-clause-next g c n h =
    let ls = map (timed_of g.Q.Exact.value) c.args.timed.now in
    let below : c.args.place < length c.args.timed.now = omega arith in
    let f = first_at c.args.place ls (rw length-map below) in
    next_later (g.Q.Exact.value c.args.interval) c.requires.above ls c.requires.in_time n c.args.place c.args.ticks f.first f.rest f.is (omega arith) h

pub next_after-requires-clause-past : goal.next_after-requires-clause-past
next_after-requires-clause-past g c =
    let ls = map (timed_of g.Q.Exact.value) c.args.timed.now in
    let x = get_or c.args.timed.now c.args.place c.index-timed-place.result in
    let is = read_at (timed_of g.Q.Exact.value) c.args.timed.now c.args.place c.index-timed-place.result c.index-timed-place.is in
    let below : c.args.place < length c.args.timed.now = omega arith in
    let e = drop_here (timed_of g.Q.Exact.value) c.args.timed.now c.args.place x below is in
    past_here (g.Q.Exact.value c.args.interval) c.requires.above ls c.requires.in_time c.requires.at.0 c.args.place c.args.ticks (timed_of g.Q.Exact.value x) _ e c.requires.at.1

pub next_after-requires-clause-rest : goal.next_after-requires-clause-rest
next_after-requires-clause-rest g c =
    let ls = map (timed_of g.Q.Exact.value) c.args.timed.now in
    let x = get_or c.args.timed.now c.args.place c.index-timed-place.result in
    let is = read_at (timed_of g.Q.Exact.value) c.args.timed.now c.args.place c.index-timed-place.result c.index-timed-place.is in
    let below : c.args.place < length c.args.timed.now = omega arith in
    let e = drop_here (timed_of g.Q.Exact.value) c.args.timed.now c.args.place x below is in
    from_here (g.Q.Exact.value c.args.interval) c.requires.above ls c.requires.in_time c.args.place (timed_of g.Q.Exact.value x) _ e

pub unreachable-requires : goal.unreachable-requires
unreachable-requires g c =
    let q = g.Q.Exact.value c.args.interval in
    let x = get_or c.args.timed.now c.args.place c.index-timed-place.result in
    let is = read_at (timed_of g.Q.Exact.value) c.args.timed.now c.args.place c.index-timed-place.result c.index-timed-place.is in
    let below : c.args.place < length c.args.timed.now = omega arith in
    c.in-None.ensures (all_here (timed_of g.Q.Exact.value) (λ (l : Timed). OnGrid q l.time) c.args.timed.now c.args.place x c.requires.grid below is)

pub returns-clause-next : goal.returns-clause-next
returns-clause-next g c n h =
    let ls = map (timed_of g.Q.Exact.value) c.args.timed.now in
    let x = get_or c.args.timed.now c.args.place c.index-timed-place.result in
    let is = read_at (timed_of g.Q.Exact.value) c.args.timed.now c.args.place c.index-timed-place.result c.index-timed-place.is in
    let below : c.args.place < length c.args.timed.now = omega arith in
    let e = drop_here (timed_of g.Q.Exact.value) c.args.timed.now c.args.place x below is in
    next_now (g.Q.Exact.value c.args.interval) c.requires.above ls c.requires.in_time n c.args.place c.args.ticks (timed_of g.Q.Exact.value x) _ e (omega arith) h
    c.in-Some.here c.next_after.result c.in-Some.ensures.1 c.next_after.ensures.place c.next_after.ensures.at
