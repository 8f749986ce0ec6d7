use Rattle.std.proofs.Common.{◌≡◌, get_or, ◌+◌, ◌-◌, ◌≤◌, arith, ap, subst, ◌∙◌}
use Rattle.std.specs.Prelude.{Option, IfSome}
use Rattle.plus_fraction.specs.Fraction.{Fraction, ◌<ℚ◌}
use Rattle.plus_model.specs.Terms.{Timed}
use Rattle.plus_state.specs.View.{timed_of}
use Rattle.plus_steps.specs.Stepped.{time_of_step}
use Rattle.plus_stepped.specs.Grid.{OnGrid}
use Rattle.plus_stepped.proofs.GridLemmas.{lt_step}
use Rattle.plus_stepped.proofs.LiteralLemmas.{drop_here, read_at, get_first, all_here}
use Rattle.plus_stepped.proofs.literals.ticks_to.Goals as goal

pub overflow_sub-result : goal.overflow_sub-result
overflow_sub-result g c =
    let q = g.Q.Exact.value c.args.interval in
    let x = get_or c.args.timed.now c.args.place c.index-timed-place.result in
    let is = read_at (timed_of g.Q.Exact.value) c.args.timed.now c.args.place c.index-timed-place.result c.index-timed-place.is in
    let e = get_first c.args.place _ _ _ (drop_here (timed_of g.Q.Exact.value) c.args.timed.now c.args.place x c.if-place-timed.false is) in
    let l : time_of_step q c.args.here <ℚ g.Q.Exact.value x.time = subst (λ (o : Option Timed). IfSome o (λ (l : Timed). time_of_step q c.args.here <ℚ l.time)) e c.requires.later in
    let k = lt_step q c.requires.above c.args.here c.in-Some.steps (subst (λ (t : Fraction). time_of_step q c.args.here <ℚ t) c.in-Some.ensures.1 l) in
    omega (arith, k)

pub unreachable-requires : goal.unreachable-requires
unreachable-requires g c =
    let q = g.Q.Exact.value c.args.interval in
    let x = get_or c.args.timed.now c.args.place c.index-timed-place.result in
    let is = read_at (timed_of g.Q.Exact.value) c.args.timed.now c.args.place c.index-timed-place.result c.index-timed-place.is in
    c.in-None.ensures (all_here (timed_of g.Q.Exact.value) (λ (l : Timed). OnGrid q l.time) c.args.timed.now c.args.place x c.requires.grid c.if-place-timed.false is)

pub returns : goal.returns
returns g c =
    let q = g.Q.Exact.value c.args.interval in
    let x = get_or c.args.timed.now c.args.place c.index-timed-place.result in
    let is = read_at (timed_of g.Q.Exact.value) c.args.timed.now c.args.place c.index-timed-place.result c.index-timed-place.is in
    let e = get_first c.args.place _ _ _ (drop_here (timed_of g.Q.Exact.value) c.args.timed.now c.args.place x c.if-place-timed.false is) in
    let l : time_of_step q c.args.here <ℚ g.Q.Exact.value x.time = subst (λ (o : Option Timed). IfSome o (λ (l : Timed). time_of_step q c.args.here <ℚ l.time)) e c.requires.later in
    let k = lt_step q c.requires.above c.args.here c.in-Some.steps (subst (λ (t : Fraction). time_of_step q c.args.here <ℚ t) c.in-Some.ensures.1 l) in
    let one : 1 ≤ c.in-Some.steps - c.args.here = omega (arith, k) in
    let sum : c.in-Some.steps ≡ c.args.here + (c.in-Some.steps - c.args.here) = omega (arith, k) in
    rw e (one, c.in-Some.ensures.1 ∙ ap (time_of_step q) sum)
