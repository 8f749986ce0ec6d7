use Rattle.std.proofs.Common.{◌+◌, List, ℕ, length, map, refl, ap, sym, subst, ◌∙◌, arith}
use Rattle.plus_state.specs.View.{problem_of}
use Rattle.plus_trim.specs.Acts.{act_of, chosen}
use Rattle.plus_trim.specs.Work.{TriedIs, IsLess}
use Rattle.plus_trim.proofs.Acted.{chosen_long}
use Rattle.plus_trim.proofs.Round.{Told, told_none, told_more, tried_valid, work_less, work_last}
use Rattle.plus_trim.proofs.tries.Work.round.Goals as goal

pub each-init : goal.each-init
each-init g c =
    let v = g.Q.Exact.value in
    record {
      work = c.requires.work;
      same = refl {A = List ℕ};
      told = told_none g.Q.Exact.fits (problem_of v c.args.ground.now) c.args.bounds.now.happenings (chosen (map (act_of v) c.args.acts.now) c.args.self.now.places.items) (v c.args.bounds.now.end);
      marks = omega arith;
    }

pub try_at-requires-clause-place : goal.try_at-requires-clause-place
try_at-requires-clause-place g c = let e = ap {A = List ℕ} {B = ℕ} length c.each.invariant.same in omega arith

pub counted-requires : goal.counted-requires
counted-requires g c =
    let e = ap {A = List ℕ} {B = ℕ} length c.each.invariant.same in
    omega (arith, c.each.invariant.told.few, c.each.invariant.work.marked.few)

pub each-preserved : goal.each-preserved
each-preserved g c =
    let v = g.Q.Exact.value in
    let fits = g.Q.Exact.fits in
    let P = problem_of v c.args.ground.now in
    let most = c.args.bounds.now.happenings in
    let xs = map (act_of v) c.args.acts.now in
    let last = v c.args.bounds.now.end in
    let old = c.each.self.places.items in
    let new = c.try_at.new.self.places.items in
    let i = c.each.index in
    let e = ap {A = List ℕ} {B = ℕ} length c.each.invariant.same in
    let n = chosen_long xs old c.each.invariant.work.marked.inside in
    record {
      work = c.in_ok-tried.ensures.work;
      same = ◌∙◌ {A = List ℕ} c.in_ok-tried.ensures.places c.each.invariant.same;
      told = subst (λ (ps : List ℕ). Told fits P most (chosen xs ps) last (i + 1) c.in-Some.after) (sym {A = List ℕ} c.in_ok-tried.ensures.places)
          (told_more fits P most (chosen xs old) last i c.each.beyond c.each.invariant.told c.in_ok-tried.tried c.in-Some.after (omega arith) c.in_ok-tried.ensures.tried
          (sym c.in-Some.ensures));
      marks = omega (arith, c.in_ok-tried.ensures.marks);
    }

pub returns-in-None : goal.returns-in-None
returns-in-None g c = record {
  round =
      let v = g.Q.Exact.value in
      let fits = g.Q.Exact.fits in
      let P = problem_of v c.args.ground.now in
      let most = c.args.bounds.now.happenings in
      let xs = map (act_of v) c.args.acts.now in
      let last = v c.args.bounds.now.end in
      let old = c.each.self.places.items in
      let new = c.try_at.new.self.places.items in
      let i = c.each.index in
      let e = ap {A = List ℕ} {B = ℕ} length c.each.invariant.same in
      let s = ap {A = List ℕ} {B = ℕ} length c.in_ok-tried.ensures.places in
      let valid = tried_valid fits P most (chosen xs new) last i c.each.beyond c.in_ok-tried.tried
      (subst (λ (ps : List ℕ). TriedIs fits P most (chosen xs ps) last i c.in_ok-tried.tried) (sym {A = List ℕ} c.in_ok-tried.ensures.places) c.in_ok-tried.ensures.tried)
      (sym c.in-None.ensures) in
      subst (λ (ps : List ℕ). IsLess fits P most xs last ps c.leave_out.new.self.places.items c.leave_out.new.self.marks.items) (◌∙◌ {A = List ℕ} c.in_ok-tried.ensures.places c.each.invariant.same)
      (work_less fits P most xs last new c.try_at.new.self.marks.items c.in_ok-tried.ensures.work.marked i (omega arith)
      c.leave_out.new.self.places.items c.leave_out.new.self.marks.items valid c.leave_out.ensures.places c.leave_out.ensures.marks);
}

pub returns : goal.returns
returns g c = record {
  round =
      let v = g.Q.Exact.value in
      let e = ap {A = List ℕ} {B = ℕ} length c.each.invariant.same in
      work_last g.Q.Exact.fits (problem_of v c.args.ground.now) c.args.bounds.now.happenings (map (act_of v) c.args.acts.now) (v c.args.bounds.now.end)
      c.each.self.places.items c.each.self.marks.items c.each.index c.each.beyond c.each.invariant.work c.each.invariant.told (omega arith);
}
