use Rattle.std.proofs.Common.{arith}
use Rattle.std.proofs.lemmas.Int.{ints}
use Rattle.plus_number.proofs.FracLemmas.{none-add}
use Rattle.plus_number.proofs.frac.Frac64Exact.add.Goals as goal

pub returns-then-self-eq0 : goal.returns-then-self-eq0
returns-then-self-eq0 c = none-add c.args.self c.args.other (omega (arith, ints))
