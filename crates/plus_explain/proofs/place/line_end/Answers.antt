use Rattle.std.proofs.Common.{arith}
use Rattle.plus_explain.proofs.PlaceLemmas.{line_end_is}
use Rattle.plus_explain.proofs.place.line_end.Goals as goal

pub returns-else-text-end-ne10-clause-end : goal.returns-else-text-end-ne10-clause-end
returns-else-text-end-ne10-clause-end c =
    line_end_is _ _ _ c.on.invariant.0 c.on.invariant.1 c.on.invariant.2 (λ more. c.if-text-end-ne10.false)

pub returns-after-on-clause-end : goal.returns-after-on-clause-end
returns-after-on-clause-end c =
    line_end_is _ _ _ c.on.invariant.0 c.on.invariant.1 c.on.invariant.2 (λ more. absurd (omega arith))
