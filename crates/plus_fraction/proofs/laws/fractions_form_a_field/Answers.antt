use Rattle.plus_fraction.proofs.FractionLaws.{*ℚ_comm, *ℚ_assoc, *ℚ-+ℚ}
use Rattle.plus_fraction.proofs.FractionRing.{*ℚ-one}
use Rattle.plus_fraction.proofs.FractionSigns.{/ℚ-mul, zero_not_one}
use Rattle.plus_fraction.proofs.laws.fractions_form_a_field.Goals as goal

pub returns-clause-commute : goal.returns-clause-commute
returns-clause-commute c = *ℚ_comm

pub returns-clause-associate : goal.returns-clause-associate
returns-clause-associate c = *ℚ_assoc

pub returns-clause-one : goal.returns-clause-one
returns-clause-one c = *ℚ-one

pub returns-clause-distribute : goal.returns-clause-distribute
returns-clause-distribute c = *ℚ-+ℚ

pub returns-clause-quotients : goal.returns-clause-quotients
returns-clause-quotients c = /ℚ-mul

pub returns-clause-apart : goal.returns-clause-apart
returns-clause-apart c = zero_not_one
