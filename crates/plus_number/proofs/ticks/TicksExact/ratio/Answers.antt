use Rattle.std.proofs.Common.{arith}
use Rattle.std.proofs.lemmas.Int.{ints}
use Rattle.plus_number.proofs.TicksLemmas.{answers_ratio}
use Rattle.plus_number.proofs.ticks.TicksExact.ratio.Goals as goal

pub returns : goal.returns
returns c = answers_ratio c.args.n c.args.d _ _ _ c.quotient.ensures c.requires (omega (arith, ints)) (omega (arith, ints))
