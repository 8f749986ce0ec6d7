use Rattle.std.proofs.Common.{◌≡◌, ◌∙◌, ap, sym, suc, ◌-◌, arith, ◌||◌, not}
use Rattle.std.specs.Str.{bytes_eq}
use Rattle.plus_types.specs.Types.{is_above_within}
use Rattle.plus_types.proofs.TypesLemmas.{above-is, within-zero, climb-none, climb-some, top-above}
use Rattle.plus_types.proofs.types.Types.is_above.Goals as goal

pub returns-then-eq : goal.returns-then-eq
returns-then-eq c =
    let top = ap (bytes_eq c.args.high.now) (sym c.as_slice.ensures) ∙ sym c.eq.ensures ∙ c.if-eq.true in
    c.ne.ensures ∙ ap (λ x. not (bytes_eq c.args.low.now x)) c.as_slice-then-eq.ensures
    ∙ rw (← c.self.view_is) (sym (top-above c.self.inside.listed c.self.inside.above c.args.high.now c.args.low.now c.self.invariant.listed top))

pub steps-preserved : goal.steps-preserved
steps-preserved c =
    let other = ap (bytes_eq c.args.high.now) (sym c.as_slice.ensures) ∙ sym c.eq.ensures ∙ c.if-eq.false in
    let n : c.steps.left ≡ suc (c.steps.left - 1) = omega arith in
    let inv = rw (← c.self.view_is) at c.steps.invariant in
    let up = climb-some c.self.inside.listed c.self.inside.above (c.steps.left - 1) c.args.high.now c.steps.at.now c.in-Some.kind.now c.self.invariant.listed other c.in-Some.ensures in
    rw (← c.self.view_is) (inv ∙ ap (λ m. is_above_within c.self.inside.listed m c.args.high.now c.steps.at.now) n ∙ up
    ∙ ap (λ b. b || is_above_within c.self.inside.listed (c.steps.left - 1) c.args.high.now c.in-Some.kind.now) (sym c.eq-in-Some.ensures ∙ c.if-eq-2.false))

pub returns-in-None : goal.returns-in-None
returns-in-None c =
    let other = ap (bytes_eq c.args.high.now) (sym c.as_slice.ensures) ∙ sym c.eq.ensures ∙ c.if-eq.false in
    let n : c.steps.left ≡ suc (c.steps.left - 1) = omega arith in
    let inv = rw (← c.self.view_is) at c.steps.invariant in
    let up = climb-none c.self.inside.listed c.self.inside.above (c.steps.left - 1) c.args.high.now c.steps.at.now c.self.invariant.listed other c.in-None.ensures in
    rw (← c.self.view_is) (sym (above-is c.self.inside.listed c.args.high.now c.args.low.now ∙ inv ∙ ap (λ m. is_above_within c.self.inside.listed m c.args.high.now c.steps.at.now) n ∙ up))

pub returns-then-eq-2 : goal.returns-then-eq-2
returns-then-eq-2 c =
    let other = ap (bytes_eq c.args.high.now) (sym c.as_slice.ensures) ∙ sym c.eq.ensures ∙ c.if-eq.false in
    let n : c.steps.left ≡ suc (c.steps.left - 1) = omega arith in
    let inv = rw (← c.self.view_is) at c.steps.invariant in
    let up = climb-some c.self.inside.listed c.self.inside.above (c.steps.left - 1) c.args.high.now c.steps.at.now c.in-Some.kind.now c.self.invariant.listed other c.in-Some.ensures in
    rw (← c.self.view_is) (sym (above-is c.self.inside.listed c.args.high.now c.args.low.now ∙ inv ∙ ap (λ m. is_above_within c.self.inside.listed m c.args.high.now c.steps.at.now) n ∙ up
    ∙ ap (λ b. b || is_above_within c.self.inside.listed (c.steps.left - 1) c.args.high.now c.in-Some.kind.now) (sym c.eq-in-Some.ensures ∙ c.if-eq-2.true)))

pub returns : goal.returns
returns c =
    let z : c.steps.left ≡ 0 = omega arith in
    let inv = rw (← c.self.view_is) at c.steps.invariant in
    rw (← c.self.view_is) (sym (above-is c.self.inside.listed c.args.high.now c.args.low.now ∙ inv ∙ ap (λ m. is_above_within c.self.inside.listed m c.args.high.now c.steps.at.now) z ∙ within-zero c.self.inside.listed c.args.high.now c.steps.at.now))
