use Rattle.std.proofs.Common.{sym, subst}
use Rattle.plus_fraction.specs.Fraction.{Fraction, ◌≤ℚ◌}
use Rattle.plus_number.specs.Frac.{fraction_of}
use Rattle.plus_fraction.proofs.Compared.{compared-less}
use Rattle.plus_fraction.proofs.FractionAtMost.{le_lt}
use Rattle.tests_low.proofs.crossings.third.Goals as goal

pub returns-in-Less : goal.returns-in-Less
returns-in-Less c = subst (λ (x : Fraction). x ≤ℚ fraction_of c.fraction-third.result) c.zero-none.ensures (le_lt _ _ (compared-less _ _ (sym c.in-Less.ensures)))
