use Rattle.std.proofs.Common.{IsTrue}
use Rattle.plus_fraction.proofs.JustAfter.{just_after_order, order_of_just_after, just_after_of_order, less_just_after, just_after_less, at_most_just_after, just_after_at_most, equal_just_after, just_after_equal}
use Rattle.plus_fraction.proofs.laws.values_and_slopes_tell_just_after.Goals as goal

pub returns-clause-order : goal.returns-clause-order
returns-clause-order c = just_after_order

pub returns-clause-test : goal.returns-clause-test
returns-clause-test c = λ test v m w n. (order_of_just_after (λ o. IsTrue (test o)) v m w n, just_after_of_order (λ o. IsTrue (test o)) v m w n)

pub returns-clause-less : goal.returns-clause-less
returns-clause-less c = λ v m w n. (less_just_after v m w n, just_after_less v m w n)

pub returns-clause-at_most : goal.returns-clause-at_most
returns-clause-at_most c = λ v m w n. (at_most_just_after v m w n, just_after_at_most v m w n)

pub returns-clause-equal : goal.returns-clause-equal
returns-clause-equal c = λ v m w n. (equal_just_after v m w n, just_after_equal v m w n)
