use Rattle.std.proofs.Common.{rules, ◌<ℤ◌}
use Rattle.plus_number.specs.Frac.{fraction_of}
use Rattle.plus_number.proofs.FracLemmas.{less_apart, greater_apart}
use Rattle.plus_number.proofs.frac.Frac64.order_apart.Goals as goal

pub returns-then-cross : goal.returns-then-cross
returns-then-cross c =
    less_apart (fraction_of c.args.self) (fraction_of c.args.other) c.cross.result c.cross-2.result c.cross.ensures.value c.cross-2.ensures.value (search rules)

pub returns-else-cross : goal.returns-else-cross
returns-else-cross c =
    greater_apart (fraction_of c.args.self) (fraction_of c.args.other) c.cross.result c.cross-2.result c.cross.ensures.value c.cross-2.ensures.value c.requires (λ (h : c.cross.result <ℤ c.cross-2.result). search (rules, h))
