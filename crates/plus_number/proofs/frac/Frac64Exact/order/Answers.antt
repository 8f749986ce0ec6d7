use Rattle.std.proofs.Common.{arith, ◌∙◌, sym}
use Rattle.plus_number.proofs.FracLemmas.{same_bottom-compared}
use Rattle.plus_number.proofs.frac.Frac64Exact.order.Goals as goal

pub returns-then-self-other : goal.returns-then-self-other
returns-then-self-other c = c.cmp.ensures ∙ sym (same_bottom-compared c.args.self c.args.other (omega arith))
