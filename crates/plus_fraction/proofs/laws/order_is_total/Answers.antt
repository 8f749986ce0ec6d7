use Rattle.plus_fraction.proofs.FractionOrder.{<ℚ_irrefl, <ℚ_trans, <ℚ_or}
use Rattle.plus_fraction.proofs.FractionAtMost.{le_cases, le_of_cases, middle, middle_between}
use Rattle.plus_fraction.proofs.laws.order_is_total.Goals as goal

pub returns-clause-irreflexive : goal.returns-clause-irreflexive
returns-clause-irreflexive c = <ℚ_irrefl

pub returns-clause-transitive : goal.returns-clause-transitive
returns-clause-transitive c = <ℚ_trans

pub returns-clause-total : goal.returns-clause-total
returns-clause-total c = <ℚ_or

pub returns-clause-at_most : goal.returns-clause-at_most
returns-clause-at_most c = λ x y. (le_cases x y, le_of_cases x y)

pub returns-clause-dense : goal.returns-clause-dense
returns-clause-dense c = λ x y h. let m = middle_between x y h in (middle x y, m.0, m.1)
