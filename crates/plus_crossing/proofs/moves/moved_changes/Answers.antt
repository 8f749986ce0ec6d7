use Rattle.plus_crossing.proofs.Noting.{told_whole, rises_whole}
use Rattle.plus_crossing.proofs.moves.moved_changes.Goals as goal

pub returns-clause-told : goal.returns-clause-told
returns-clause-told g c = told_whole g.Q.Exact.value _ _ _ _ _ _ c.clear.ensures.items c.moved_fluents.result c.moved_fluents.ensures

pub returns-clause-rises : goal.returns-clause-rises
returns-clause-rises g c = rises_whole g.Q.Exact.value g.Q.Exact.fits _ _ _ _ _ c.clear.ensures.items c.moved_fluents.result c.moved_fluents.ensures
