use Rattle.std.proofs.Common.{ℕ, false, refl, sym, subst}
use Rattle.std.specs.Prelude.{Err}
use Rattle.plus_state.specs.declared.outcome.Limit.TheVariants.{Happenings}
use Rattle.plus_state.specs.View.{problem_of}
use Rattle.plus_timeline.specs.declared.stop.Stop.TheVariants.{Limit}
use Rattle.plus_timeline.specs.Advance.{AdvanceTold}
use Rattle.plus_timeline.proofs.Advancing.{as_asked, as_later, full}
use Rattle.plus_timeline.proofs.timeline.Timeline.must_close.Goals as goal

pub returns-then-not-is_below-clause-told : goal.returns-then-not-is_below-clause-told
returns-then-not-is_below-clause-told g c =
    as_asked (problem_of g.Q.Exact.value c.args.ground.now).timed false _ _ _ _ c.if-not-is_below.ensures c.time-time.ensures c.bound.ensures

pub returns-then-is_full-clause-full : goal.returns-then-is_full-clause-full
returns-then-is_full-clause-full g c =
    let P = problem_of g.Q.Exact.value c.args.ground.now in
    let l = as_later P.timed _ _ _ _ c.if-not-is_below.ensures c.time-time.ensures c.bound.ensures in
    let told = full g.Q.Exact.value g.Q.Exact.fits P (g.Q.Exact.value c.args.until) c.args.self.now c.requires.going c.args.self.now
    c.requires.moment c.requires.passed c.requires.still l (c.if-is_full.ensures.full refl) in
    subst (λ (n : ℕ). AdvanceTold g.Q.Exact.value g.Q.Exact.fits P (g.Q.Exact.value c.args.until) c.args.self.now c.args.self.now (Err (Limit (Happenings n)))) (sym c.most.ensures) told

pub returns-clause-told : goal.returns-clause-told
returns-clause-told g c =
    let P = problem_of g.Q.Exact.value c.args.ground.now in
    record {
      later = as_later P.timed _ _ _ _ c.if-not-is_below.ensures c.time-time.ensures c.bound.ensures;
      room = c.if-is_full.ensures.room refl;
    }
