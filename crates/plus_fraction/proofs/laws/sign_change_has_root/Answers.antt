use Rattle.plus_fraction.proofs.Constancy.{root_between, root_between_down}
use Rattle.plus_fraction.proofs.laws.sign_change_has_root.Goals as goal

pub returns-clause-rising : goal.returns-clause-rising
returns-clause-rising c = λ v m a b l h k. let r = root_between v m a b l h k in (r.place, r.after, r.before, r.is_root)

pub returns-clause-falling : goal.returns-clause-falling
returns-clause-falling c = λ v m a b l h k. let r = root_between_down v m a b l h k in (r.place, r.after, r.before, r.is_root)
