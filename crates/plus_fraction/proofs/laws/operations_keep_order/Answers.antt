use Rattle.plus_fraction.proofs.FractionOrder.{+ℚ-lt, *ℚ-lt}
use Rattle.plus_fraction.proofs.laws.operations_keep_order.Goals as goal

pub returns-clause-sums : goal.returns-clause-sums
returns-clause-sums c = +ℚ-lt

pub returns-clause-products : goal.returns-clause-products
returns-clause-products c = *ℚ-lt
