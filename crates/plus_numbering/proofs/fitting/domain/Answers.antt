use Rattle.plus_numbering.proofs.Unfits.{then_tests}
use Rattle.plus_numbering.proofs.fitting.domain.Goals as goal

pub returns : goal.returns
returns g c =
    rw (← c.as_slice.ensures, ← c.as_slice-2.ensures) (then_tests g.Q.Exact.fits _ _ c.schemas-2.result c.in_ok-schemas.ensures c.schemas-2.ensures)
