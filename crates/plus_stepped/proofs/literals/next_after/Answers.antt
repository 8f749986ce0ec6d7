use Rattle.std.proofs.Common.{ℕ, ◌+◌, map, drop, take, sym, subst}
use Rattle.std.specs.Prelude.{IfSome, slice_get}
use Rattle.plus_fraction.specs.Fraction.{Fraction, ◌<ℚ◌}
use Rattle.plus_fraction.proofs.FractionAtMost.{≤ℚ_refl}
use Rattle.plus_model.specs.Terms.{Timed}
use Rattle.plus_state.specs.View.{timed_of}
use Rattle.plus_steps.specs.Stepped.{time_of_step}
use Rattle.plus_stepped.specs.Grid.{UpTo, run_of}
use Rattle.plus_stepped.proofs.LiteralLemmas.{later_at, past_run}
use Rattle.plus_stepped.proofs.literals.next_after.Goals as goal

pub ticks_to-requires-clause-later : goal.ticks_to-requires-clause-later
ticks_to-requires-clause-later g c =
    let ls = map (timed_of g.Q.Exact.value) c.args.timed.now in
    let t = g.Q.Exact.value c.args.time in
    let p : ℕ = c.args.from + run_of t (drop c.args.from ls) in
    let h : IfSome (slice_get ls p) (λ (l : Timed). t <ℚ l.time) = later_at t c.args.from ls c.requires.in_time c.requires.rest in
    let k = subst (λ (x : Fraction). IfSome (slice_get ls p) (λ (l : Timed). x <ℚ l.time)) c.requires.time h in
    subst (λ (j : ℕ). IfSome (slice_get ls j) (λ (l : Timed). time_of_step (g.Q.Exact.value c.args.interval) c.args.here <ℚ l.time)) (sym c.run_end-place.ensures.end) k

pub returns-clause-at : goal.returns-clause-at
returns-clause-at g c =
    let ls = map (timed_of g.Q.Exact.value) c.args.timed.now in
    let t = g.Q.Exact.value c.args.time in
    let a = past_run t t c.args.from ls (≤ℚ_refl t) c.requires.past in
    let b = subst (λ (p : ℕ). UpTo t (take p ls)) (sym c.run_end-place.ensures.end) a in
    record {
      past = subst (λ (x : Fraction). UpTo x (take c.run_end-place.result ls)) c.requires.time b;
      next = c.ticks_to.ensures;
    }
