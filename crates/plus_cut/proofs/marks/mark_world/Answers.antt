use Rattle.plus_cut.proofs.MarkLemmas.{marks_then}
use Rattle.plus_cut.proofs.marks.mark_world.Goals as goal

pub returns : goal.returns
returns g c = marks_then _ _ _ _ _ c.mark_events.ensures c.mark_literals.ensures
