use Rattle.plus_expansion.specs.Literals.{schema_literals}
use Rattle.plus_numbering.proofs.Unfits.{answer, then_tests}
use Rattle.plus_numbering.proofs.fitting.schema_fits.Goals as goal

pub returns : goal.returns
returns g c =
    answer g.Q.Exact.fits (schema_literals c.args.schema.now) c.effect.result
    (then_tests g.Q.Exact.fits _ _ c.effect.result c.in_ok-condition.ensures c.effect.ensures)
