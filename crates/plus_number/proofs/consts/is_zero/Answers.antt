use Rattle.std.proofs.Common.{arith, ◌≡◌, ◌∙◌, sym, pos}
use Rattle.std.proofs.lemmas.Int.{ints}
use Rattle.plus_fraction.proofs.FractionSigns.{zero_by_top, top_of_zero}
use Rattle.plus_number.proofs.consts.is_zero.Goals as goal

pub returns : goal.returns
returns g c = (
  λ t. zero_by_top _ (sym c.parts-parts.ensures.top ∙ grind (arith, ints)),
  λ e. let z : c.parts-parts.result.0 ≡ pos 0 = c.parts-parts.ensures.top ∙ top_of_zero _ e in grind (arith, ints),
)
