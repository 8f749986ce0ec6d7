use Rattle.std.proofs.Common.{subst}
use Rattle.plus_crossing.specs.Moves.{moved_nodes, MoveStops}
use Rattle.plus_watch.proofs.Telling.{nodes_told}
use Rattle.plus_watch.proofs.look.ahead.Goals as goal

pub returns-in-Ok-clause-told : goal.returns-in-Ok-clause-told
returns-in-Ok-clause-told g c = ((nodes_told g.Q.Exact.fits _).0 c.in-Ok.ensures.told.0, c.in-Ok.ensures.told.1)

pub returns-in-Err-Number-clause-told : goal.returns-in-Err-Number-clause-told
returns-in-Err-Number-clause-told g c =
    (nodes_told g.Q.Exact.fits _).1 _ (subst (MoveStops g.Q.Exact.value g.Q.Exact.fits (moved_nodes c.args.state.now.fluents c.args.rates.now (g.Q.Exact.value c.args.delay))) c.in-Err-Number.field-0-is c.in-Err-Number.ensures.told)
