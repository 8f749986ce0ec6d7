use Rattle.plus_translation.proofs.RowTexts.{early_texts}
use Rattle.plus_translation.proofs.rows.early_texts.Goals as goal

pub returns : goal.returns
returns c = early_texts
