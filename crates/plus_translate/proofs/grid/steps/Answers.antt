use Rattle.std.proofs.Common.{◌≡◌, arith, w64, pos}
use Rattle.std.proofs.lemmas.Int.{to_z-of_z}
use mir.Val.{to_z, of_z}
use Rattle.plus_number.specs.Frac.{fraction_of}
use Rattle.plus_translate.proofs.QuotientLemmas.{quotient_above, quotient_reduced, step_top_above, tells}
use Rattle.plus_translate.proofs.grid.steps.Goals as goal

pub nonzero_div-time : goal.nonzero_div-time
nonzero_div-time c = c.common_divisor-divisor.ensures.above c.power_of_ten-power.ensures.above

pub nonzero_div-power : goal.nonzero_div-power
nonzero_div-power c = c.common_divisor-divisor.ensures.above c.power_of_ten-power.ensures.above

pub whole_quotient-requires-clause-bottom : goal.whole_quotient-requires-clause-bottom
whole_quotient-requires-clause-bottom c =
    rw c.common_divisor-divisor.ensures.is_gcd (quotient_above c.args.time.now.digits c.power_of_ten-power.result c.power_of_ten-power.ensures.above)

pub whole_quotient-requires-clause-step_top : goal.whole_quotient-requires-clause-step_top
whole_quotient-requires-clause-step_top c =
    let top : to_z w64 (of_z w64 c.parts-step_top.result.0) ≡ c.args.interval.n = grind (arith, to_z-of_z) in
    rw (c.unsigned_abs.ensures.value, top) (step_top_above (fraction_of c.args.interval) c.requires)

pub whole_quotient-requires-clause-reduced : goal.whole_quotient-requires-clause-reduced
whole_quotient-requires-clause-reduced c =
    rw c.common_divisor-divisor.ensures.is_gcd (quotient_reduced c.args.time.now.digits c.power_of_ten-power.result c.power_of_ten-power.ensures.above)

pub returns : goal.returns
returns c =
    let top : to_z w64 (of_z w64 c.parts-step_top.result.0) ≡ c.args.interval.n = grind (arith, to_z-of_z) in
    let bottom : to_z w64 (of_z w64 c.parts-step_top.result.1) ≡ pos c.args.interval.d = grind (arith, to_z-of_z) in
    let h = rw (c.unsigned_abs-2.ensures.value, bottom, c.unsigned_abs.ensures.value, top, c.common_divisor-divisor.ensures.is_gcd) at c.whole_quotient.ensures in
    tells (fraction_of c.args.interval) c.args.time.now c.power_of_ten-power.result c.requires c.if-time.false c.if-time-gt-MOST_PLACES.false
    c.power_of_ten-power.ensures.is c.power_of_ten-power.ensures.above c.whole_quotient.result h
