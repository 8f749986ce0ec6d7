use Rattle.std.proofs.Common.{rules, ℤ, pos, SFits, w64, to_z-of_z, ◌∙◌, sym, ap, ◌/◌, arith, unsigned_abs}
use mir.Syntax.{w128}
use Rattle.plus_fraction.specs.Gcd.{with_sign}
use Rattle.plus_number.proofs.FracLemmas.{divided}
use Rattle.plus_number.proofs.ticks.TicksExact.parts.Goals as goal

pub returns-clause-top : goal.returns-clause-top
returns-clause-top c =
    let h : SFits w64 c.args.self.k = search rules in
    let t = divided c.args.self.k 1000000 _ _ (omega arith) (c.unsigned_abs-size.ensures.value ∙ ap unsigned_abs (to_z-of_z h)) c.narrow_divisor-divisor.ensures.is_gcd in
    let f : SFits w64 c.signed.result = search rules in
    let g : SFits w128 c.widened.result = search rules in
    to_z-of_z f ∙ c.signed.ensures ∙ ap (λ (z : ℤ). with_sign z (c.unsigned_abs-size.result / c.narrow_divisor-divisor.result)) (to_z-of_z g ∙ c.widened.ensures.value) ∙ sym t.top

pub returns-clause-bottom : goal.returns-clause-bottom
returns-clause-bottom c =
    let h : SFits w64 c.args.self.k = search rules in
    let t = divided c.args.self.k 1000000 _ _ (omega arith) (c.unsigned_abs-size.ensures.value ∙ ap unsigned_abs (to_z-of_z h)) c.narrow_divisor-divisor.ensures.is_gcd in
    let f : SFits w64 c.million_over.result = search rules in
    to_z-of_z f ∙ c.million_over.ensures ∙ ap pos (sym t.bottom)
