use Rattle.std.proofs.Common.{◌≡◌, ℕ, ◌/◌, ◌<◌, arith, ap, ap₂, ◌∙◌, subst, pos, rules, unsigned_abs, to_z, to_z-of_z, SFits, w64}
use Rattle.std.proofs.lemmas.Int.{ints}
use Rattle.plus_fraction.specs.Fraction.{Fraction, over}
use Rattle.plus_number.specs.Exact.{Answers}
use Rattle.plus_number.specs.Frac.{IsFrac64, fraction_of}
use Rattle.plus_literal.specs.Value.{signed_whole}
use Rattle.plus_literal.proofs.Reduced.{size_of, parts, over-reduced}
use Rattle.plus_literal.proofs.literals.Frac64FromParts.from_parts.Goals as goal

pub returns-then-reduced_top-gt-GREATEST : goal.returns-then-reduced_top-gt-GREATEST
returns-then-reduced_top-gt-GREATEST c fits =
    let d = c.common_divisor-divisor in
    let p = parts c.args.negative c.args.top c.args.bottom d.result c.requires (d.ensures.above c.requires) d.ensures.is_gcd in
    let e = ap unsigned_abs p.top_is ∙ size_of c.args.negative (c.args.top / d.result) in
    omega (arith, e, fits.0)

pub returns-then-reduced_bottom-gt-GREATEST : goal.returns-then-reduced_bottom-gt-GREATEST
returns-then-reduced_bottom-gt-GREATEST c fits =
    let d = c.common_divisor-divisor in
    let p = parts c.args.negative c.args.top c.args.bottom d.result c.requires (d.ensures.above c.requires) d.ensures.is_gcd in
    omega (arith, p.bottom_is, fits.1)

pub ratio-requires : goal.ratio-requires
ratio-requires c =
    let d = c.common_divisor-divisor in
    let p = parts c.args.negative c.args.top c.args.bottom d.result c.requires (d.ensures.above c.requires) d.ensures.is_gcd in
    let above = subst (λ (k : ℕ). 0 < k) p.bottom_is (over (signed_whole c.args.negative c.args.top) c.args.bottom).positive in
    omega (arith, ints, above)

pub returns : goal.returns
returns c =
    let d = c.common_divisor-divisor in
    let p = parts c.args.negative c.args.top c.args.bottom d.result c.requires (d.ensures.above c.requires) d.ensures.is_gcd in
    let bottom : to_z w64 (c.args.bottom / d.result) ≡ pos (c.args.bottom / d.result) = omega (arith, ints) in
    let fits : SFits w64 c.signed-signed_top.result = search rules in
    let same = ap₂ over (to_z-of_z fits ∙ c.signed-signed_top.ensures) (ap unsigned_abs bottom) ∙ over-reduced c.args.negative c.args.top c.args.bottom d.result p in
    subst (λ (q : Fraction). Answers fraction_of IsFrac64 q c.ratio.result) same c.ratio.ensures
