use Rattle.std.proofs.Common.{◌≡◌, ◌+◌, ◌<◌, map, take, length, get_or, refl, ◌∙◌, arith}
use Rattle.std.specs.Prelude.{Some, slice_get}
use Rattle.plus_state.specs.View.{problem_of}
use Rattle.plus_trim.specs.Acts.{act_of, lines_of, plan_of, chosen}
use Rattle.plus_trim.specs.Work.{IsMark}
use Rattle.plus_trim.proofs.Acted.{rests_reach, halts_most}
use Rattle.plus_trim.proofs.Working.{mark_rests, mark_read, mark_acted, next_ahead}
use Rattle.plus_trim.proofs.Marking.{only_memory, act_there, plan_goes_on, mark_is}
use Rattle.plus_trim.proofs.tries.Work.go_on.Goals as goal

pub act_at-requires-clause-reach : goal.act_at-requires-clause-reach
act_at-requires-clause-reach g c =
    let v = g.Q.Exact.value in
    let fits = g.Q.Exact.fits in
    let P = problem_of v c.args.ground.now in
    let most = c.args.bounds.now.happenings in
    let xs = map (act_of v) c.args.acts.now in
    let end = v c.args.bounds.now.end in
    let places = c.args.self.now.places.items in
    let marks = c.args.self.now.marks.items in
    let w = c.requires.work.marked in
    let i = c.args.done in
    let h : i < length places = c.requires.place in
    let x = act_of v c.index-acts-place.result in
    let e : slice_get xs (get_or places i 0) ≡ Some x = act_there v c.args.acts.now places i c.index-place.result.now w.inside h c.index-place.ensures c.index-acts-place.result c.index-acts-place.is in
    let line = c.args.line.now in
    let mark = c.requires.mark in
    rests_reach P line.line x.0 (mark_rests fits P most (chosen xs (take i places)) line mark) (next_ahead fits P most xs end places marks w i h line mark x e).0

pub act_at-requires-clause-knows : goal.act_at-requires-clause-knows
act_at-requires-clause-knows g c =
    let v = g.Q.Exact.value in
    let fits = g.Q.Exact.fits in
    let P = problem_of v c.args.ground.now in
    let most = c.args.bounds.now.happenings in
    let xs = map (act_of v) c.args.acts.now in
    let end = v c.args.bounds.now.end in
    let places = c.args.self.now.places.items in
    let marks = c.args.self.now.marks.items in
    let w = c.requires.work.marked in
    let i = c.args.done in
    let h : i < length places = c.requires.place in
    let x = act_of v c.index-acts-place.result in
    let e : slice_get xs (get_or places i 0) ≡ Some x = act_there v c.args.acts.now places i c.index-place.result.now w.inside h c.index-place.ensures c.index-acts-place.result c.index-acts-place.is in
    let line = c.args.line.now in
    let mark = c.requires.mark in
    mark.knows

pub act_at-requires-clause-fits : goal.act_at-requires-clause-fits
act_at-requires-clause-fits g c =
    let v = g.Q.Exact.value in
    let fits = g.Q.Exact.fits in
    let P = problem_of v c.args.ground.now in
    let most = c.args.bounds.now.happenings in
    let xs = map (act_of v) c.args.acts.now in
    let end = v c.args.bounds.now.end in
    let places = c.args.self.now.places.items in
    let marks = c.args.self.now.marks.items in
    let w = c.requires.work.marked in
    let i = c.args.done in
    let h : i < length places = c.requires.place in
    let x = act_of v c.index-acts-place.result in
    let e : slice_get xs (get_or places i 0) ≡ Some x = act_there v c.args.acts.now places i c.index-place.result.now w.inside h c.index-place.ensures c.index-acts-place.result c.index-acts-place.is in
    let line = c.args.line.now in
    let mark = c.requires.mark in
    c.requires.fit (get_or places i 0) x e

pub act_at-requires-clause-number : goal.act_at-requires-clause-number
act_at-requires-clause-number g c =
    let v = g.Q.Exact.value in
    let fits = g.Q.Exact.fits in
    let P = problem_of v c.args.ground.now in
    let most = c.args.bounds.now.happenings in
    let xs = map (act_of v) c.args.acts.now in
    let end = v c.args.bounds.now.end in
    let places = c.args.self.now.places.items in
    let marks = c.args.self.now.marks.items in
    let w = c.requires.work.marked in
    let i = c.args.done in
    let h : i < length places = c.requires.place in
    let x = act_of v c.index-acts-place.result in
    let e : slice_get xs (get_or places i 0) ≡ Some x = act_there v c.args.acts.now places i c.index-place.result.now w.inside h c.index-place.ensures c.index-acts-place.result c.index-acts-place.is in
    let line = c.args.line.now in
    let mark = c.requires.mark in
    let a = mark_acted fits P most xs end places marks w i h line mark in omega arith

pub returns-in-Ok : goal.returns-in-Ok
returns-in-Ok g c =
    let v = g.Q.Exact.value in
    let fits = g.Q.Exact.fits in
    let P = problem_of v c.args.ground.now in
    let most = c.args.bounds.now.happenings in
    let xs = map (act_of v) c.args.acts.now in
    let end = v c.args.bounds.now.end in
    let places = c.args.self.now.places.items in
    let marks = c.args.self.now.marks.items in
    let w = c.requires.work.marked in
    let i = c.args.done in
    let h : i < length places = c.requires.place in
    let x = act_of v c.index-acts-place.result in
    let e : slice_get xs (get_or places i 0) ≡ Some x = act_there v c.args.acts.now places i c.index-place.result.now w.inside h c.index-place.ensures c.index-acts-place.result c.index-acts-place.is in
    let line = c.args.line.now in
    let mark = c.requires.mark in
    record {
      mark = mark_is fits P most xs end places marks w i x e h (i + 1) c.act_at.new.line refl c.in-Ok.ensures.knows
          (c.in-Ok.ensures.behind (lines_of (chosen xs (take i places))) mark.behind) (c.in-Ok.ensures.acts.most ∙ mark.most_is);
    }

pub wanting-requires : goal.wanting-requires
wanting-requires g c =
    let v = g.Q.Exact.value in
    let fits = g.Q.Exact.fits in
    let P = problem_of v c.args.ground.now in
    let most = c.args.bounds.now.happenings in
    let xs = map (act_of v) c.args.acts.now in
    let end = v c.args.bounds.now.end in
    let places = c.args.self.now.places.items in
    let marks = c.args.self.now.marks.items in
    let w = c.requires.work.marked in
    let i = c.args.done in
    let h : i < length places = c.requires.place in
    let x = act_of v c.index-acts-place.result in
    let e : slice_get xs (get_or places i 0) ≡ Some x = act_there v c.args.acts.now places i c.index-place.result.now w.inside h c.index-place.ensures c.index-acts-place.result c.index-acts-place.is in
    let line = c.args.line.now in
    let mark = c.requires.mark in
    only_memory v fits P most (plan_of (chosen xs places) end) c.in-Err.stop c.requires.work.valid
    (halts_most v fits P line.line.most most (plan_of (chosen xs places) end) (plan_of (chosen xs places) end) c.in-Err.stop mark.most_is refl
    (c.in-Err.ensures.halts (lines_of (chosen xs (take i places))) (plan_of (chosen xs places) end) mark.behind (plan_goes_on fits P most xs end places marks w i x e h)))
