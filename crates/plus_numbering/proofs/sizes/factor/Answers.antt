use Rattle.std.proofs.Common.{sym, ap, ◌∙◌, arith}
use Rattle.plus_numbering.specs.Sizes.{held}
use Rattle.plus_numbering.proofs.Holding.{held-one}
use Rattle.plus_numbering.proofs.Steps.{not_two}
use Rattle.plus_numbering.proofs.sizes.factor.Goals as goal

pub returns-in_default : goal.returns-in_default
returns-in_default c = let h = c.in_default.len_below in sym (ap held (not_two c.args.factors.now (λ e. omega arith)) ∙ held-one)

pub returns-in_default-2 : goal.returns-in_default-2
returns-in_default-2 c = let h = c.in_default.len_at_least in sym (ap held (not_two c.args.factors.now (λ e. omega arith)) ∙ held-one)
