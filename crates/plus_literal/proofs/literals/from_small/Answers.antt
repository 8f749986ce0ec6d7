use Rattle.std.proofs.Common.{◌≡◌, arith, ap, ap₂, ◌∙◌, subst, pos, rules, unsigned_abs, to_z, to_z-of_z, SFits, w64}
use Rattle.std.proofs.lemmas.Int.{ints}
use Rattle.plus_fraction.specs.Fraction.{Fraction, over}
use Rattle.plus_number.specs.Exact.{Answers}
use Rattle.plus_number.specs.Frac.{IsFrac64, fraction_of}
use Rattle.plus_literal.proofs.literals.from_small.Goals as goal

pub returns : goal.returns
returns c =
    let bottom : to_z w64 c.args.bottom ≡ pos c.args.bottom = omega (arith, ints) in
    let fits : SFits w64 c.signed-small_top.result = search rules in
    let same = ap₂ over (to_z-of_z fits ∙ c.signed-small_top.ensures) (ap unsigned_abs bottom) in
    subst (λ (q : Fraction). Answers fraction_of IsFrac64 q c.ratio.result) same c.ratio.ensures
