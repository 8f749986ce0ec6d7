use Rattle.std.proofs.Common.{◌∙◌, ap, sym, ◌||◌}
use Rattle.plus_types.specs.Types.{is_above}
use Rattle.plus_types.proofs.TypesLemmas.{under-is}
use Rattle.plus_types.proofs.types.Types.is_under.Goals as goal

pub returns-then-is_name : goal.returns-then-is_name
returns-then-is_name c =
    sym (under-is c.args.self.now c.args.low.now c.args.high.now ∙ ap (λ b. b || is_above c.args.self.now c.args.high.now c.args.low.now) (sym c.is_name.ensures ∙ c.if-is_name.true))

pub returns : goal.returns
returns c =
    c.is_above.ensures ∙ sym (under-is c.args.self.now c.args.low.now c.args.high.now ∙ ap (λ b. b || is_above c.args.self.now c.args.high.now c.args.low.now) (sym c.is_name.ensures ∙ c.if-is_name.false))
