use Rattle.std.proofs.Common.{arith, pos, ◌≢◌}
use Rattle.std.proofs.lemmas.Int.{ints}
use Rattle.plus_number.proofs.TicksLemmas.{answers_div, answers_div_below, above_of}
use Rattle.plus_number.proofs.ticks.TicksExact.div.Goals as goal

pub quotient-requires-else-other-lt0 : goal.quotient-requires-else-other-lt0
quotient-requires-else-other-lt0 c = let n : c.args.other.k ≢ pos 0 = above_of c.args.other.k c.requires in omega (arith, ints)

pub returns-then-other-lt0 : goal.returns-then-other-lt0
returns-then-other-lt0 c = answers_div_below c.args.self.k c.args.other.k _ _ _ c.quotient.ensures (omega (arith, ints)) (omega (arith, ints)) (omega (arith, ints))

pub returns-else-other-lt0 : goal.returns-else-other-lt0
returns-else-other-lt0 c =
    let n : c.args.other.k ≢ pos 0 = above_of c.args.other.k c.requires in
    answers_div c.args.self.k c.args.other.k _ _ _ c.quotient-else-other-lt0.ensures (omega (arith, ints)) (omega (arith, ints)) (omega (arith, ints))
