use Rattle.plus_stretch.proofs.HereLemmas.{nodes_pass, nodes_fail, comes_by, within_along, moves_along}
use Rattle.plus_stretch.proofs.crossing.move_ahead.Goals as goal

pub patch-requires : goal.patch-requires
patch-requires g c = within_along _ _ _ _ c.requires.along c.in-Ok.ensures.rises

pub returns-in-Err-Number-clause-told : goal.returns-in-Err-Number-clause-told
returns-in-Err-Number-clause-told g c = nodes_fail _ _ _ (rw c.in-Err-Number.field-0-is at c.in-Err-Number.ensures.told)

pub returns-in-Ok-clause-told : goal.returns-in-Ok-clause-told
returns-in-Ok-clause-told g c = (nodes_pass _ _ c.in-Ok.ensures.told.0, comes_by _ _ _ _ c.in-Ok.ensures.rises c.in-Ok.ensures.told.1)

pub returns-in-Ok-clause-along : goal.returns-in-Ok-clause-along
returns-in-Ok-clause-along g c =
    moves_along c.args.state.now c.args.rates.now (g.Q.Exact.value c.args.delay) c.args.ahead.now.state c.patch.new.self c.moved_changes.new.changes c.requires.along c.in-Ok.ensures.told.1 c.patch.ensures
