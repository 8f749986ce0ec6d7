use Rattle.plus_ground.proofs.timed_literals.add.Goals as goal

pub returns-in-At : goal.returns-in-At
returns-in-At g c = rw c.in-At.is c.add_at.ensures

pub returns-in-AtNot : goal.returns-in-AtNot
returns-in-AtNot g c = rw c.in-AtNot.is c.add_at-in-AtNot.ensures
