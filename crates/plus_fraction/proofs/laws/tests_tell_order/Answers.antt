use Rattle.plus_fraction.proofs.Compared.{compared-less, less-compared, compared-equal, equal-compared, compared-greater, greater-compared, same-equal, equal-same}
use Rattle.plus_fraction.proofs.laws.tests_tell_order.Goals as goal

pub returns-clause-less : goal.returns-clause-less
returns-clause-less c = λ x y. (compared-less x y, less-compared x y)

pub returns-clause-equal : goal.returns-clause-equal
returns-clause-equal c = λ x y. (compared-equal x y, equal-compared x y)

pub returns-clause-greater : goal.returns-clause-greater
returns-clause-greater c = λ x y. (compared-greater x y, greater-compared x y)

pub returns-clause-same : goal.returns-clause-same
returns-clause-same c = λ x y. (same-equal x y, equal-same x y)
