use Rattle.plus_stretch.proofs.looked.in_order.Goals as goal

pub returns-clause-rising : goal.returns-clause-rising
returns-clause-rising g c = rw (c.in_ok-members_into.ensures, c.deref.ensures.value) c.sort_once.ensures.rises

pub returns-clause-same : goal.returns-clause-same
returns-clause-same g c = λ k. rw (c.in_ok-members_into.ensures, c.deref.ensures.value) (c.sort_once.ensures.same k)
