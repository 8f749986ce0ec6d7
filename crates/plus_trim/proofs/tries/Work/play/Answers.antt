use Rattle.std.proofs.Common.{◌<◌, [], map, length, ap, subst, sym, arith}
use Rattle.std.specs.Prelude.{All}
use Rattle.std.proofs.lemmas.List.{length-map}
use Rattle.std.proofs.lemmas.Result.{on_ok_weaker, IfErr-weaker}
use Rattle.plus_state.specs.View.{problem_of}
use Rattle.plus_trim.specs.Acts.{act_of}
use Rattle.plus_trim.proofs.Working.{mark_rests, mark_read, first_ahead, first_order, first_inside, first_halts}
use Rattle.plus_trim.proofs.tries.Work.play.Goals as goal

pub play_on-played-requires-clause-rests : goal.play_on-played-requires-clause-rests
play_on-played-requires-clause-rests g c =
    let v = g.Q.Exact.value in
    let P = problem_of v c.args.ground.now in
    let mark = mark_read g.Q.Exact.fits P c.args.bounds.now.happenings (map (act_of v) c.args.acts.now) (v c.args.bounds.now.end) c.args.self.now.places.items c.args.self.now.marks.items c.requires.marked 0 c.index.result.now c.in-Ok.line c.requires.marked.some c.index.ensures c.in-Ok.ensures in
    mark_rests g.Q.Exact.fits P c.args.bounds.now.happenings [] c.in-Ok.line mark

pub play_on-played-requires-clause-knows : goal.play_on-played-requires-clause-knows
play_on-played-requires-clause-knows g c =
    let v = g.Q.Exact.value in
    (mark_read g.Q.Exact.fits (problem_of v c.args.ground.now) c.args.bounds.now.happenings (map (act_of v) c.args.acts.now) (v c.args.bounds.now.end) c.args.self.now.places.items c.args.self.now.marks.items c.requires.marked 0 c.index.result.now c.in-Ok.line c.requires.marked.some c.index.ensures c.in-Ok.ensures).knows

pub play_on-played-requires-clause-inside : goal.play_on-played-requires-clause-inside
play_on-played-requires-clause-inside g c =
    let v = g.Q.Exact.value in
    subst (λ n. All (λ p. p < n) c.deref.result.now) (length-map c.args.acts.now (act_of v))
    (subst (All (λ p. p < length (map (act_of v) c.args.acts.now))) (sym c.deref.ensures.value) c.requires.marked.inside)

pub play_on-played-requires-clause-done : goal.play_on-played-requires-clause-done
play_on-played-requires-clause-done g c =
    let v = g.Q.Exact.value in
    (mark_read g.Q.Exact.fits (problem_of v c.args.ground.now) c.args.bounds.now.happenings (map (act_of v) c.args.acts.now) (v c.args.bounds.now.end) c.args.self.now.places.items c.args.self.now.marks.items c.requires.marked 0 c.index.result.now c.in-Ok.line c.requires.marked.some c.index.ensures c.in-Ok.ensures).behind.acted

pub play_on-played-requires-clause-few : goal.play_on-played-requires-clause-few
play_on-played-requires-clause-few g c = let f = c.requires.marked.few in let n = ap length c.deref.ensures.value in omega arith

pub play_on-played-requires-clause-ahead : goal.play_on-played-requires-clause-ahead
play_on-played-requires-clause-ahead g c =
    let v = g.Q.Exact.value in
    let fits = g.Q.Exact.fits in
    let P = problem_of v c.args.ground.now in
    let most = c.args.bounds.now.happenings in
    let xs = map (act_of v) c.args.acts.now in
    let last = v c.args.bounds.now.end in
    let places = c.args.self.now.places.items in
    let marks = c.args.self.now.marks.items in
    let mark = mark_read fits P most xs last places marks c.requires.marked 0 c.index.result.now c.in-Ok.line c.requires.marked.some c.index.ensures c.in-Ok.ensures in
    first_ahead fits P most xs last places marks c.requires.marked c.in-Ok.line mark c.deref.result.now c.deref.ensures.value

pub returns-in-Ok-clause-inside : goal.returns-in-Ok-clause-inside
returns-in-Ok-clause-inside g c =
    let v = g.Q.Exact.value in
    let fits = g.Q.Exact.fits in
    let P = problem_of v c.args.ground.now in
    let most = c.args.bounds.now.happenings in
    let xs = map (act_of v) c.args.acts.now in
    let last = v c.args.bounds.now.end in
    let places = c.args.self.now.places.items in
    let marks = c.args.self.now.marks.items in
    let mark = mark_read fits P most xs last places marks c.requires.marked 0 c.index.result.now c.in-Ok.line c.requires.marked.some c.index.ensures c.in-Ok.ensures in
    on_ok_weaker c.play_on-played.result
    (λ f. first_inside fits P most xs last places marks c.requires.marked c.in-Ok.line mark c.deref.result.now c.deref.ensures.value
    (f [] mark.behind (first_order fits P most xs last places marks c.requires.marked c.in-Ok.line mark c.deref.result.now c.deref.ensures.value)))
    c.play_on-played.ensures.valid

pub returns-in-Ok-clause-halts : goal.returns-in-Ok-clause-halts
returns-in-Ok-clause-halts g c =
    let v = g.Q.Exact.value in
    let fits = g.Q.Exact.fits in
    let P = problem_of v c.args.ground.now in
    let most = c.args.bounds.now.happenings in
    let xs = map (act_of v) c.args.acts.now in
    let last = v c.args.bounds.now.end in
    let places = c.args.self.now.places.items in
    let marks = c.args.self.now.marks.items in
    let mark = mark_read fits P most xs last places marks c.requires.marked 0 c.index.result.now c.in-Ok.line c.requires.marked.some c.index.ensures c.in-Ok.ensures in
    IfErr-weaker c.play_on-played.result _ _
    (λ stop f. first_halts fits P most xs last places marks c.requires.marked c.in-Ok.line mark c.deref.result.now c.deref.ensures.value v stop
    (f [] mark.behind (first_order fits P most xs last places marks c.requires.marked c.in-Ok.line mark c.deref.result.now c.deref.ensures.value)))
    c.play_on-played.ensures.halts
