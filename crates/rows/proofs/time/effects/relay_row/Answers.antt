use Rattle.rows.proofs.TimeLemmas.EffectRows.{relay_row}
use Rattle.rows.proofs.time.effects.relay_row.Goals as goal

pub returns : goal.returns
returns c = relay_row
