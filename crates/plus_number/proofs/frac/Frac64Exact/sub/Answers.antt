use Rattle.std.proofs.Common.{arith}
use Rattle.std.proofs.lemmas.Int.{ints}
use Rattle.plus_number.proofs.FracLemmas.{less-none}
use Rattle.plus_number.proofs.frac.Frac64Exact.sub.Goals as goal

pub returns-then-other-eq0 : goal.returns-then-other-eq0
returns-then-other-eq0 c = less-none c.args.self c.args.other (omega (arith, ints))
