use Rattle.std.proofs.Common.{refl}
use Rattle.plus_fraction.proofs.Constancy.{stays_below_other, same_order, same_slope}
use Rattle.plus_fraction.proofs.laws.order_is_constant_between_meetings.Goals as goal

pub returns-clause-below : goal.returns-clause-below
returns-clause-below c = stays_below_other

pub returns-clause-alike : goal.returns-clause-alike
returns-clause-alike c = same_order

pub returns-clause-one_slope : goal.returns-clause-one_slope
returns-clause-one_slope c = λ v w m x. same_slope v w m m x refl
