use Rattle.plus_fraction.proofs.FractionLaws.{+ℚ_comm, +ℚ_assoc}
use Rattle.plus_fraction.proofs.FractionRing.{+ℚ-zero, -ℚ_is}
use Rattle.plus_fraction.proofs.FractionSigns.{+ℚ-neg}
use Rattle.plus_fraction.proofs.laws.sums_form_a_group.Goals as goal

pub returns-clause-commute : goal.returns-clause-commute
returns-clause-commute c = +ℚ_comm

pub returns-clause-associate : goal.returns-clause-associate
returns-clause-associate c = +ℚ_assoc

pub returns-clause-zero : goal.returns-clause-zero
returns-clause-zero c = +ℚ-zero

pub returns-clause-opposites : goal.returns-clause-opposites
returns-clause-opposites c = +ℚ-neg

pub returns-clause-differences : goal.returns-clause-differences
returns-clause-differences c = -ℚ_is
