use Rattle.std.proofs.Common.{◌≡◌, ◌+◌, ◌-◌, ◌<◌, suc, map, take, drop, length, subst}
use Rattle.std.specs.Prelude.{All}
use Rattle.std.proofs.lemmas.List.{length-map}
use Rattle.plus_state.specs.View.{problem_of}
use Rattle.plus_trim.specs.Acts.{act_of, lines_of, chosen}
use Rattle.plus_trim.proofs.Working.{mark_rests, mark_acted, rest_behind, try_ahead, try_few, try_inside, try_order, try_valid, try_halts, halts_going, tells_tried}
use Rattle.plus_trim.proofs.tries.Work.play_behind.Goals as goal

pub play_on-requires-clause-rests : goal.play_on-requires-clause-rests
play_on-requires-clause-rests g c =
    let v = g.Q.Exact.value in
    let P = problem_of v c.args.ground.now in
    let xs = map (act_of v) c.args.acts.now in
    let places = c.args.self.now.places.items in
    mark_rests g.Q.Exact.fits P c.args.bounds.now.happenings (chosen xs (take c.args.index places)) c.args.line.now c.requires.mark

pub play_on-requires-clause-knows : goal.play_on-requires-clause-knows
play_on-requires-clause-knows g c = c.requires.mark.knows

pub play_on-requires-clause-inside : goal.play_on-requires-clause-inside
play_on-requires-clause-inside g c =
    let v = g.Q.Exact.value in
    let fits = g.Q.Exact.fits in
    let P = problem_of v c.args.ground.now in
    let most = c.args.bounds.now.happenings in
    let xs = map (act_of v) c.args.acts.now in
    let last = v c.args.bounds.now.end in
    let places = c.args.self.now.places.items in
    let marks = c.args.self.now.marks.items in
    let i = c.args.index in
    let rest = take (length c.deref.result.now - (i + 1)) (drop (i + 1) c.deref.result.now) in
    let e : rest ≡ drop (suc i) places = rest_behind c.deref.result.now places i c.deref.ensures.value in
    subst (λ n. All (λ p. p < n) rest) (length-map c.args.acts.now (act_of v))
    (try_inside fits P most xs last places marks c.requires.marked i c.requires.place c.args.line.now c.requires.mark rest e)

pub play_on-requires-clause-done : goal.play_on-requires-clause-done
play_on-requires-clause-done g c =
    let v = g.Q.Exact.value in
    let fits = g.Q.Exact.fits in
    let P = problem_of v c.args.ground.now in
    let most = c.args.bounds.now.happenings in
    let xs = map (act_of v) c.args.acts.now in
    let last = v c.args.bounds.now.end in
    let places = c.args.self.now.places.items in
    let marks = c.args.self.now.marks.items in
    let i = c.args.index in
    mark_acted fits P most xs last places marks c.requires.marked i c.requires.place c.args.line.now c.requires.mark

pub play_on-requires-clause-few : goal.play_on-requires-clause-few
play_on-requires-clause-few g c =
    let v = g.Q.Exact.value in
    let fits = g.Q.Exact.fits in
    let P = problem_of v c.args.ground.now in
    let most = c.args.bounds.now.happenings in
    let xs = map (act_of v) c.args.acts.now in
    let last = v c.args.bounds.now.end in
    let places = c.args.self.now.places.items in
    let marks = c.args.self.now.marks.items in
    let i = c.args.index in
    let rest = take (length c.deref.result.now - (i + 1)) (drop (i + 1) c.deref.result.now) in
    let e : rest ≡ drop (suc i) places = rest_behind c.deref.result.now places i c.deref.ensures.value in
    try_few fits P most xs last places marks c.requires.marked i c.requires.place c.args.line.now c.requires.mark rest e

pub play_on-requires-clause-ahead : goal.play_on-requires-clause-ahead
play_on-requires-clause-ahead g c =
    let v = g.Q.Exact.value in
    let fits = g.Q.Exact.fits in
    let P = problem_of v c.args.ground.now in
    let most = c.args.bounds.now.happenings in
    let xs = map (act_of v) c.args.acts.now in
    let last = v c.args.bounds.now.end in
    let places = c.args.self.now.places.items in
    let marks = c.args.self.now.marks.items in
    let i = c.args.index in
    let rest = take (length c.deref.result.now - (i + 1)) (drop (i + 1) c.deref.result.now) in
    let e : rest ≡ drop (suc i) places = rest_behind c.deref.result.now places i c.deref.ensures.value in
    try_ahead fits P most xs last places marks c.requires.marked i c.requires.place c.args.line.now c.requires.mark rest e

pub returns-in-Ok : goal.returns-in-Ok
returns-in-Ok g c = record {
  tried =
      let v = g.Q.Exact.value in
      let fits = g.Q.Exact.fits in
      let P = problem_of v c.args.ground.now in
      let most = c.args.bounds.now.happenings in
      let xs = map (act_of v) c.args.acts.now in
      let last = v c.args.bounds.now.end in
      let places = c.args.self.now.places.items in
      let marks = c.args.self.now.marks.items in
      let i = c.args.index in
      let rest = take (length c.deref.result.now - (i + 1)) (drop (i + 1) c.deref.result.now) in
      let e : rest ≡ drop (suc i) places = rest_behind c.deref.result.now places i c.deref.ensures.value in
      try_valid fits P most xs last places marks c.requires.marked i c.requires.place c.args.line.now c.requires.mark rest e
      (c.in-Ok.ensures.valid (lines_of (chosen xs (take i places))) c.requires.mark.behind
      (try_order fits P most xs last places marks c.requires.marked i c.requires.place c.args.line.now c.requires.mark rest e));
}

pub refused-requires : goal.refused-requires
refused-requires g c =
    let v = g.Q.Exact.value in
    let fits = g.Q.Exact.fits in
    let P = problem_of v c.args.ground.now in
    let most = c.args.bounds.now.happenings in
    let xs = map (act_of v) c.args.acts.now in
    let last = v c.args.bounds.now.end in
    let places = c.args.self.now.places.items in
    let marks = c.args.self.now.marks.items in
    let i = c.args.index in
    let rest = take (length c.deref.result.now - (i + 1)) (drop (i + 1) c.deref.result.now) in
    let e : rest ≡ drop (suc i) places = rest_behind c.deref.result.now places i c.deref.ensures.value in
    halts_going v fits P c.args.line.now.line.most _ c.in-Err.stop
    (c.in-Err.ensures.halts (lines_of (chosen xs (take i places))) c.requires.mark.behind
    (try_order fits P most xs last places marks c.requires.marked i c.requires.place c.args.line.now c.requires.mark rest e))

pub returns-in-Err : goal.returns-in-Err
returns-in-Err g c = record {
  tried =
      let v = g.Q.Exact.value in
      let fits = g.Q.Exact.fits in
      let P = problem_of v c.args.ground.now in
      let most = c.args.bounds.now.happenings in
      let xs = map (act_of v) c.args.acts.now in
      let last = v c.args.bounds.now.end in
      let places = c.args.self.now.places.items in
      let marks = c.args.self.now.marks.items in
      let i = c.args.index in
      let rest = take (length c.deref.result.now - (i + 1)) (drop (i + 1) c.deref.result.now) in
      let e : rest ≡ drop (suc i) places = rest_behind c.deref.result.now places i c.deref.ensures.value in
      tells_tried v fits P most (chosen xs places) last i c.in-Err.stop c.refused.result
      (try_halts fits P most xs last places marks c.requires.marked i c.requires.place c.args.line.now c.requires.mark rest e v c.in-Err.stop
      (c.in-Err.ensures.halts (lines_of (chosen xs (take i places))) c.requires.mark.behind
      (try_order fits P most xs last places marks c.requires.marked i c.requires.place c.args.line.now c.requires.mark rest e)))
      c.refused.ensures;
}
