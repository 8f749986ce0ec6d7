use Rattle.rows.proofs.TimeLemmas.EffectRows.{lost_row}
use Rattle.rows.proofs.time.effects.lost_row.Goals as goal

pub returns : goal.returns
returns c = lost_row
