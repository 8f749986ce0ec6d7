use Rattle.rows.proofs.TimeLemmas.EffectRows.{repeats_row}
use Rattle.rows.proofs.time.effects.repeats_row.Goals as goal

pub returns : goal.returns
returns c = repeats_row
