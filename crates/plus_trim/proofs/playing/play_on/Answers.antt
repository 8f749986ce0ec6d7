use Rattle.std.proofs.Common.{◌≡◌, ◌+◌, ◌≤◌, [], ◌∷◌, ◌++◌, map, take, drop, get_or, length, subst, sym, ap, ◌∙◌, refl, arith}
use Rattle.std.specs.Prelude.{Some, slice_get}
use Rattle.std.proofs.lemmas.List.{take_more, drop_more, take_all, drop_all, take-append-drop}
use Rattle.std.proofs.lemmas.Result.{on_ok_weaker, IfErr-weaker}
use Rattle.plus_model.specs.Plan.{EndLine, IsInOrder}
use Rattle.plus_state.specs.View.{problem_of}
use Rattle.plus_planner.proofs.DecidingLemmas.{action_at}
use Rattle.plus_trim.specs.Acts.{act_of, lines_of, whole, chosen, AreAhead}
use Rattle.plus_trim.specs.Judging.{IsInside}
use Rattle.plus_trim.specs.Standing.{StandsBehind}
use Rattle.plus_trim.proofs.Acted.{IsAt, at_start, rests_reach, halts_most, time_ahead, at_next, goes_with}
use Rattle.plus_trim.proofs.playing.play_on.Goals as goal

pub each-init : goal.each-init
each-init g c =
    let v = g.Q.Exact.value in
    record {
      at = at_start g.Q.Exact.fits (problem_of v c.args.ground.now) (map (act_of v) c.args.acts.now) (v c.args.end) c.args.line.now.line c.args.rest.now c.requires.rests c.requires.ahead;
      knows = c.requires.knows;
      acted = c.requires.done;
      counted = omega arith;
    }

pub act_at-requires-clause-reach : goal.act_at-requires-clause-reach
act_at-requires-clause-reach g c =
    let v = g.Q.Exact.value in
    let fits = g.Q.Exact.fits in
    let P = problem_of v c.args.ground.now in
    let xs = map (act_of v) c.args.acts.now in
    let last = v c.args.end in
    let start = c.args.line.now.line in
    let now = c.each.line.line in
    let rest = c.args.rest.now in
    let i = c.each.place-index in
    let p = get_or rest i 0 in
    let x = act_of v c.index-acts-place.result in
    let e : slice_get xs p ≡ Some x = action_at (act_of v) c.args.acts.now p c.index-acts-place.result (c.requires.inside i 0 c.each-test.true) c.index-acts-place.is in
    let at : IsAt fits P xs last (take i rest) (p ∷ drop (i + 1) rest) start now = subst (λ ls. IsAt fits P xs last (take i rest) ls start now) (drop_more rest i 0 c.each-test.true) c.each.invariant.at in
    rests_reach P now x.0 at.rests (time_ahead fits P xs last start (take i rest) (drop (i + 1) rest) p x e now at)

pub act_at-requires-clause-fits : goal.act_at-requires-clause-fits
act_at-requires-clause-fits g c =
    let v = g.Q.Exact.value in
    let xs = map (act_of v) c.args.acts.now in
    let rest = c.args.rest.now in
    let i = c.each.place-index in
    let p = get_or rest i 0 in
    let x = act_of v c.index-acts-place.result in
    let e : slice_get xs p ≡ Some x = action_at (act_of v) c.args.acts.now p c.index-acts-place.result (c.requires.inside i 0 c.each-test.true) c.index-acts-place.is in
    c.requires.fit p x e

pub returns-in-Err-clause-halts : goal.returns-in-Err-clause-halts
returns-in-Err-clause-halts g c = λ lines s o.
    let v = g.Q.Exact.value in
    let fits = g.Q.Exact.fits in
    let P = problem_of v c.args.ground.now in
    let xs = map (act_of v) c.args.acts.now in
    let last = v c.args.end in
    let start = c.args.line.now.line in
    let now = c.each.line.line in
    let rest = c.args.rest.now in
    let i = c.each.place-index in
    let p = get_or rest i 0 in
    let x = act_of v c.index-acts-place.result in
    let e : slice_get xs p ≡ Some x = action_at (act_of v) c.args.acts.now p c.index-acts-place.result (c.requires.inside i 0 c.each-test.true) c.index-acts-place.is in
    let d = drop_more rest i 0 c.each-test.true in
    let at : IsAt fits P xs last (take i rest) (p ∷ drop (i + 1) rest) start now = subst (λ ls. IsAt fits P xs last (take i rest) ls start now) d c.each.invariant.at in
    let all : take i rest ++ p ∷ drop (i + 1) rest ≡ rest = ap (λ ls. take i rest ++ ls) (sym d) ∙ take-append-drop i rest in
    halts_most v fits P now.most start.most
    (whole (lines ++ lines_of (chosen xs (take i rest ++ p ∷ drop (i + 1) rest))) last) (whole (lines ++ lines_of (chosen xs rest)) last) c.in-Err.stop at.most
    (ap (λ ps. whole (lines ++ lines_of (chosen xs ps)) last) all)
    (c.in-Err.ensures.halts (lines ++ lines_of (chosen xs (take i rest))) (whole (lines ++ lines_of (chosen xs (take i rest ++ p ∷ drop (i + 1) rest))) last)
    (at.behind lines s)
    (goes_with fits P xs last start (take i rest) (drop (i + 1) rest) p x e now at lines (subst (λ ps. IsInOrder ((lines ++ lines_of (chosen xs ps)) ++ EndLine last ∷ [])) (sym all) o)))

pub each-preserved : goal.each-preserved
each-preserved g c =
    let v = g.Q.Exact.value in
    let fits = g.Q.Exact.fits in
    let P = problem_of v c.args.ground.now in
    let xs = map (act_of v) c.args.acts.now in
    let last = v c.args.end in
    let start = c.args.line.now.line in
    let now = c.each.line.line in
    let new = c.act_at.new.line.line in
    let rest = c.args.rest.now in
    let i = c.each.place-index in
    let p = get_or rest i 0 in
    let x = act_of v c.index-acts-place.result in
    let e : slice_get xs p ≡ Some x = action_at (act_of v) c.args.acts.now p c.index-acts-place.result (c.requires.inside i 0 c.each-test.true) c.index-acts-place.is in
    let at : IsAt fits P xs last (take i rest) (p ∷ drop (i + 1) rest) start now = subst (λ ls. IsAt fits P xs last (take i rest) ls start now) (drop_more rest i 0 c.each-test.true) c.each.invariant.at in
    record {
      at = subst (λ ds. IsAt fits P xs last ds (drop (i + 1) rest) start new) (sym (take_more rest i 0 c.each-test.true))
          (at_next fits P xs last start (take i rest) (drop (i + 1) rest) p x e now at new c.in-Ok.ensures.acts c.in-Ok.ensures.behind);
      knows = c.in-Ok.ensures.knows;
      acted = omega (arith, c.in-Ok.ensures.acts.acted);
      counted = omega arith;
    }

pub close-requires-clause-reach : goal.close-requires-clause-reach
close-requires-clause-reach g c =
    let v = g.Q.Exact.value in
    let P = problem_of v c.args.ground.now in
    let xs = map (act_of v) c.args.acts.now in
    let last = v c.args.end in
    let now = c.each.line.line in
    let rest = c.args.rest.now in
    let i = c.each.place-index in
    let long : length rest ≤ i = omega (arith, c.each-test.false) in
    rests_reach P now last c.each.invariant.at.rests
    (subst (λ ls. AreAhead now.now.time (chosen xs ls) last) (drop_all i rest long) c.each.invariant.at.ahead)

pub returns-clause-valid : goal.returns-clause-valid
returns-clause-valid g c =
    let v = g.Q.Exact.value in
    let fits = g.Q.Exact.fits in
    let P = problem_of v c.args.ground.now in
    let xs = map (act_of v) c.args.acts.now in
    let last = v c.args.end in
    let rest = c.args.rest.now in
    let i = c.each.place-index in
    let at = c.each.invariant.at in
    let all : take i rest ≡ rest = take_all i rest (omega (arith, c.each-test.false)) in
    on_ok_weaker c.close.result (λ f lines s o.
    subst (λ m. IsInside fits P m (whole (lines ++ lines_of (chosen xs rest)) last)) at.most
    (f (lines ++ lines_of (chosen xs rest)) (subst (λ ps. StandsBehind fits P (lines ++ lines_of (chosen xs ps)) c.each.line.line) all (at.behind lines s)) o)) c.close.ensures.inside

pub returns-clause-halts : goal.returns-clause-halts
returns-clause-halts g c =
    let v = g.Q.Exact.value in
    let fits = g.Q.Exact.fits in
    let P = problem_of v c.args.ground.now in
    let xs = map (act_of v) c.args.acts.now in
    let last = v c.args.end in
    let rest = c.args.rest.now in
    let i = c.each.place-index in
    let at = c.each.invariant.at in
    let all : take i rest ≡ rest = take_all i rest (omega (arith, c.each-test.false)) in
    IfErr-weaker c.close.result _ _ (λ stop f lines s o.
    halts_most v fits P c.each.line.line.most c.args.line.now.line.most (whole (lines ++ lines_of (chosen xs rest)) last) (whole (lines ++ lines_of (chosen xs rest)) last) stop at.most refl
    (f (lines ++ lines_of (chosen xs rest)) (subst (λ ps. StandsBehind fits P (lines ++ lines_of (chosen xs ps)) c.each.line.line) all (at.behind lines s)) o)) c.close.ensures.halts
