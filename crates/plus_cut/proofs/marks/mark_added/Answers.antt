use Rattle.plus_cut.proofs.MarkLemmas.{marks_then}
use Rattle.plus_cut.proofs.marks.mark_added.Goals as goal

pub returns : goal.returns
returns g c = marks_then _ _ _ _ _ (rw (c.deref.ensures.value, c.deref-2.ensures.value) at c.mark_world.ensures) c.mark_actions.ensures
