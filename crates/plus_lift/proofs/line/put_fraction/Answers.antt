use Rattle.std.proofs.Common.{◌≡◌, ◌∙◌, arith, w64, pos, to_z, of_z}
use Rattle.std.proofs.lemmas.Int.{to_z-of_z}
use Rattle.plus_number.specs.Frac.{fraction_of}
use Rattle.plus_lift.proofs.OverflowLemmas.{fraction_put}
use Rattle.plus_lift.proofs.line.put_fraction.Goals as goal

pub returns : goal.returns
returns c =
    let x = fraction_of c.args.value in
    let top : to_z w64 (of_z w64 c.parts-top.result.0) ≡ x.top = grind (arith, to_z-of_z) in
    let bottom : to_z w64 (of_z w64 c.parts-top.result.1) ≡ pos x.bottom = grind (arith, to_z-of_z) in
    fraction_put _ x _ c.extend_from_slice.new.self.items _ c.as_bytes.result.now _ _ top bottom (c.as_bytes.ensures.value ∙ c.format.ensures.text)
    c.in_ok-extend_from_slice.ensures.items c.put_bottom.ensures
