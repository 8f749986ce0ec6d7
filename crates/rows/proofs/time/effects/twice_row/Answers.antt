use Rattle.rows.proofs.TimeLemmas.EffectRows.{twice_row}
use Rattle.rows.proofs.time.effects.twice_row.Goals as goal

pub returns : goal.returns
returns c = twice_row
