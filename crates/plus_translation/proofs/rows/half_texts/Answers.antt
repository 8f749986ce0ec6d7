use Rattle.plus_translation.proofs.RowTexts.{half_texts}
use Rattle.plus_translation.proofs.rows.half_texts.Goals as goal

pub returns : goal.returns
returns c = half_texts
