use Rattle.std.proofs.Common.{rules, ap₂, subst, SFits, ◌∙◌, to_z-of_z}
use mir.Syntax.{w128}
use Rattle.plus_number.specs.Frac.{fraction_of, IsFrac64}
use Rattle.plus_fraction.specs.Fraction.{Fraction, over, ◌/ℚ◌}
use Rattle.plus_number.specs.Exact.{Answers}
use Rattle.plus_fraction.proofs.FractionSigns.{abs_above}
use Rattle.plus_number.proofs.frac.Frac64Exact.div.Goals as goal

pub quotient_bottom-requires : goal.quotient_bottom-requires
quotient_bottom-requires c = abs_above (fraction_of c.args.other) c.requires

pub returns : goal.returns
unfolding ◌/ℚ◌
returns c =
    let f : SFits w128 c.signed_cross.result = search rules in
    subst (λ (q : Fraction). Answers fraction_of IsFrac64 q c.reduced.result) (ap₂ over (to_z-of_z f ∙ c.signed_cross.ensures) c.quotient_bottom.ensures.value) c.reduced.ensures
