use Rattle.std.proofs.Common.{rules, ◌∙◌, sym, ap, ap₂, ℤ, ◌*ℤ◌, SFits, to_z, of_z, to_z-of_z, int_div, int_rem, subst}
use mir.Syntax.{w64, w128}
use Rattle.std.proofs.lemmas.Int.{quot_fits}
use Rattle.std.proofs.lemmas.Result.{MatchResult-weaker}
use Rattle.plus_number.specs.Ticks.{InRange}
use Rattle.plus_number.proofs.TicksLemmas.{rem_none, narrow_quotient_of}
use Rattle.plus_fraction.proofs.IntRing.{cancel_eq}
use Rattle.plus_number.proofs.ticks.Ticks.narrow_quotient.Goals as goal

pub returns-then-n-d-ne0 : goal.returns-then-n-d-ne0
returns-then-n-d-ne0 c k e r =
    c.if-n-d-ne0.true (ap (of_z w64) (ap₂ int_rem (to_z-of_z c.ranges.n) (to_z-of_z c.ranges.d) ∙ rem_none c.args.n c.args.d k c.requires.above e))

pub returns : goal.returns
returns c =
    let e = ap (of_z w64) (sym (ap₂ int_rem (to_z-of_z c.ranges.n) (to_z-of_z c.ranges.d))) ∙ c.if-n-d-ne0.false in
    let f : SFits w64 (int_div c.args.n c.args.d) = quot_fits w64 c.args.n c.args.d c.ranges.n c.requires.above in
    let q = narrow_quotient_of c.args.n c.args.d c.ranges.n e in
    let whole = to_z w64 (of_z w64 (int_div (to_z w64 (of_z w64 c.args.n)) (to_z w64 (of_z w64 c.args.d)))) in
    let g : SFits w128 whole = search rules in
    let k = to_z-of_z g ∙ ap (λ (z : ℤ). to_z w64 (of_z w64 z)) (ap₂ int_div (to_z-of_z c.ranges.n) (to_z-of_z c.ranges.d)) ∙ to_z-of_z f in
    MatchResult-weaker c.checked.result c.checked.ensures
    (λ t h. ap (λ (z : ℤ). z *ℤ c.args.d) (h ∙ k) ∙ q)
    (λ _ h m p s. h (subst (λ (z : ℤ). InRange z) (cancel_eq m (int_div c.args.n c.args.d) c.args.d c.requires.above (p ∙ sym q) ∙ sym k) s))
