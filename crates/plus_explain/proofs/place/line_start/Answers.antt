use Rattle.std.proofs.Common.{arith}
use Rattle.plus_explain.proofs.PlaceLemmas.{line_start_is}
use Rattle.plus_explain.proofs.place.line_start.Goals as goal

pub returns-else-text-start-ne10-clause-start : goal.returns-else-text-start-ne10-clause-start
returns-else-text-start-ne10-clause-start c =
    line_start_is _ _ _ c.requires c.back.invariant.0 c.back.invariant.1 (λ some. c.if-text-start-ne10.false)

pub returns-after-back-clause-start : goal.returns-after-back-clause-start
returns-after-back-clause-start c =
    line_start_is _ _ _ c.requires c.back.invariant.0 c.back.invariant.1 (λ some. absurd (omega arith))
