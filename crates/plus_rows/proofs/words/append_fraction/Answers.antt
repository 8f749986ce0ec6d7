use Rattle.std.proofs.Common.{◌≡◌, List, ℕ, ◌++◌, subst, arith, w64}
use Rattle.std.proofs.lemmas.Int.{to_z-of_z}
use Rattle.std.specs.Prelude.{pos, OnOk}
use mir.Val.{to_z, of_z}
use Rattle.plus_number.specs.Frac.{fraction_of}
use Rattle.plus_report.proofs.TextLemmas.{fraction_text-parts}
use Rattle.plus_rows.proofs.words.append_fraction.Goals as goal

pub returns : goal.returns
returns c =
    let x = fraction_of c.args.x in
    let top : to_z w64 (of_z w64 c.parts-top.result.0) ≡ x.top = grind (arith, to_z-of_z) in
    let bottom : to_z w64 (of_z w64 c.parts-top.result.1) ≡ pos x.bottom = grind (arith, to_z-of_z) in
    subst (λ (t : List ℕ). OnOk c.append_parts.result (c.append_parts.new.into.items ≡ c.args.into.now.items ++ t)) (fraction_text-parts x _ _ top bottom) c.append_parts.ensures
