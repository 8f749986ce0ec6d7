use Rattle.std.proofs.Common.{◌≡◌, arith, ap, sym, ◌∙◌, w64, ℤ, pos, true, false}
use Rattle.std.proofs.lemmas.Int.{to_z-of_z}
use lib.Signed.{lt_z}
use mir.Val.{to_z, of_z}
use Rattle.plus_stepped.proofs.GridLemmas.{below_zero, divisor_above, quotient_tells}
use Rattle.plus_stepped.proofs.grid.steps_of.Goals as goal

pub returns-then-top-lt0 : goal.returns-then-top-lt0
returns-then-top-lt0 g c h =
    let q = g.Q.Exact.value c.args.interval in
    let x = g.Q.Exact.value c.args.time in
    let top : to_z w64 (of_z w64 c.parts-top.result.0) ≡ x.top = grind (arith, to_z-of_z) in
    let n : lt_z x.top (pos 0) ≡ true = ap (λ (z : ℤ). lt_z z (pos 0)) (sym top) ∙ c.if-top-lt0.true in
    below_zero q x c.requires n h

pub whole_quotient-requires : goal.whole_quotient-requires
whole_quotient-requires g c =
    let q = g.Q.Exact.value c.args.interval in
    let x = g.Q.Exact.value c.args.time in
    let bottom : to_z w64 (of_z w64 c.parts-top.result.1) ≡ pos x.bottom = grind (arith, to_z-of_z) in
    let step_top : to_z w64 (of_z w64 c.parts-interval_top.result.0) ≡ q.top = grind (arith, to_z-of_z) in
    rw (c.product-2.ensures, bottom, step_top) (divisor_above q x c.requires)

pub returns : goal.returns
returns g c =
    let q = g.Q.Exact.value c.args.interval in
    let x = g.Q.Exact.value c.args.time in
    let top : to_z w64 (of_z w64 c.parts-top.result.0) ≡ x.top = grind (arith, to_z-of_z) in
    let bottom : to_z w64 (of_z w64 c.parts-top.result.1) ≡ pos x.bottom = grind (arith, to_z-of_z) in
    let step_top : to_z w64 (of_z w64 c.parts-interval_top.result.0) ≡ q.top = grind (arith, to_z-of_z) in
    let step_bottom : to_z w64 (of_z w64 c.parts-interval_top.result.1) ≡ pos q.bottom = grind (arith, to_z-of_z) in
    let n : lt_z x.top (pos 0) ≡ false = ap (λ (z : ℤ). lt_z z (pos 0)) (sym top) ∙ c.if-top-lt0.false in
    let dividend = rw (top, step_bottom) at c.product.ensures in
    let divisor = rw (bottom, step_top) at c.product-2.ensures in
    quotient_tells q x c.product.result c.product-2.result c.requires n dividend divisor c.whole_quotient.result c.whole_quotient.ensures
