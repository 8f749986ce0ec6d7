use Rattle.std.proofs.Common.{rules, arith, ◌∙◌, sym, ap, SFits, w64, to_z-of_z, unsigned_abs, ◌/◌, ◌<◌, ℕ, ℤ, subst}
use Rattle.plus_fraction.specs.Gcd.{with_sign}
use Rattle.plus_fraction.specs.Fraction.{over}
use Rattle.plus_number.proofs.FracLemmas.{divided, reduced_by}
use Rattle.plus_fraction.proofs.FractionBase.{same_parts}
use Rattle.plus_number.proofs.frac.Frac64.wide.Goals as goal

pub returns-then-top : goal.returns-then-top
returns-then-top c h =
    let t = divided c.args.n c.args.d _ _ c.requires.above c.requires.size c.common_divisor-divisor.ensures.is_gcd in
    omega (arith, t.top_size)

pub returns-then-bottom : goal.returns-then-bottom
returns-then-bottom c h =
    let t = divided c.args.n c.args.d _ _ c.requires.above c.requires.size c.common_divisor-divisor.ensures.is_gcd in
    omega (arith, t.bottom)

pub invariant_of-result : goal.invariant_of-result
invariant_of-result c =
    let t = divided c.args.n c.args.d _ _ c.requires.above c.requires.size c.common_divisor-divisor.ensures.is_gcd in
    let f : SFits w64 c.signed-signed_top.result = search rules in
    let n = ap (λ (z : ℤ). with_sign z (c.args.size / c.common_divisor-divisor.result)) (to_z-of_z c.ranges.n) in
    let top = t.top ∙ sym n ∙ sym c.signed-signed_top.ensures ∙ sym (to_z-of_z f) in
    let size = ap unsigned_abs (sym top) ∙ t.top_size in
    record {
      top_fits = omega (arith, size);
      bottom_fits = omega arith;
      positive = subst (λ (k : ℕ). 0 < k) t.bottom (over c.args.n c.args.d).positive;
      reduced = reduced_by (over c.args.n c.args.d) _ _ top t.bottom;
    }

pub returns : goal.returns
returns c =
    let t = divided c.args.n c.args.d _ _ c.requires.above c.requires.size c.common_divisor-divisor.ensures.is_gcd in
    let f : SFits w64 c.signed-signed_top.result = search rules in
    let n = ap (λ (z : ℤ). with_sign z (c.args.size / c.common_divisor-divisor.result)) (to_z-of_z c.ranges.n) in
    same_parts _ (over c.args.n c.args.d) (sym (t.top ∙ sym n ∙ sym c.signed-signed_top.ensures ∙ sym (to_z-of_z f))) (sym t.bottom)
