use Rattle.std.proofs.Common.{arith}
use Rattle.plus_stepped.proofs.GridLemmas.{so_many}
use Rattle.plus_stepped.proofs.grid.whole_quotient.Goals as goal
use Rattle.plus_stepped.proofs.grid.whole_quotient.Goals.{else-dividend-divisor-eq0-via-then-dividend-divisor-eq0+else-quotient-le-MOST_STEPS, else-dividend-divisor-eq0-via-else-dividend-divisor-eq0}

pub returns-else-dividend-divisor-eq0 : goal.returns-else-dividend-divisor-eq0
returns-else-dividend-divisor-eq0 c k h e =
    let s = so_many c.args.dividend c.args.divisor k c.requires e in
    elim c.else-dividend-divisor-eq0.branch [
      | else-dividend-divisor-eq0-via-then-dividend-divisor-eq0+else-quotient-le-MOST_STEPS w ↦ omega (arith, s.0, s.1)
      | else-dividend-divisor-eq0-via-else-dividend-divisor-eq0 w ↦ w.if-dividend-divisor-eq0.false s.1
    ]
