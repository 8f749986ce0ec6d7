use Rattle.std.proofs.Common.{◌≡◌, arith, w64}
use Rattle.std.proofs.lemmas.Int.{to_z-of_z}
use Rattle.std.specs.Prelude.{pos}
use mir.Val.{to_z, of_z}
use Rattle.plus_report.specs.Text.{bottom_text}
use Rattle.plus_report.proofs.PutsLemmas.{both, stop, early, worded}
use Rattle.plus_report.proofs.TextLemmas.{fraction_text-parts, fraction_text-top}
use Rattle.plus_report.proofs.put.put_fraction.Goals as goal

pub returns-in_err-put_integer : goal.returns-in_err-put_integer
returns-in_err-put_integer g c =
    let h = c.from_residual.ensures.0 in
    let x = g.Q.Exact.value c.args.x in
    let top : to_z w64 (of_z w64 c.parts-top.result.0) ≡ x.top = grind (arith, to_z-of_z) in
    worded (early (bottom_text x.bottom) (stop c.in_err-put_integer.ensures h) h) (fraction_text-top x _ top)

pub returns : goal.returns
returns g c =
    let x = g.Q.Exact.value c.args.x in
    let top : to_z w64 (of_z w64 c.parts-top.result.0) ≡ x.top = grind (arith, to_z-of_z) in
    let bottom : to_z w64 (of_z w64 c.parts-top.result.1) ≡ pos x.bottom = grind (arith, to_z-of_z) in
    worded (both c.in_ok-put_integer.ensures c.put_bottom.ensures) (fraction_text-parts x _ _ top bottom)
