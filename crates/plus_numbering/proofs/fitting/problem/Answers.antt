use Rattle.plus_numbering.proofs.Unfits.{then_tests}
use Rattle.plus_numbering.proofs.fitting.problem.Goals as goal

pub returns : goal.returns
returns g c =
    rw (← c.as_slice.ensures) (then_tests g.Q.Exact.fits _ _ c.condition.result c.in_ok-init.ensures c.condition.ensures)
