use Rattle.std.proofs.Common.{rules, SFits, to_z-of_z, ◌∙◌}
use mir.Syntax.{w128}
use Rattle.plus_number.proofs.TicksLemmas.{answers_quotient, Is-product}
use Rattle.plus_number.proofs.ticks.TicksExact.mul.Goals as goal

pub returns : goal.returns
returns c =
    let f : SFits w128 c.product.result = search rules in
    answers_quotient _ _ _ _ c.quotient.ensures (Is-product c.args.self.k c.args.other.k _ (to_z-of_z f ∙ c.product.ensures))
