use Rattle.plus_types.specs.declared.faults.File.TheVariants.{Problem, Domain}
use Rattle.plus_numbering.proofs.Unfits.{both_fit}
use Rattle.plus_numbering.proofs.fitting.fit.Goals as goal

pub returns : goal.returns
returns g c =
    both_fit g.Q.Exact.fits Problem Domain _ _ (rw c.problem.ensures at c.in_default.ensures) (rw c.domain.ensures at c.in_default-domain.ensures)
