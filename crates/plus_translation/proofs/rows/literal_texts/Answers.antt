use Rattle.plus_translation.proofs.RowTexts.{literal_texts}
use Rattle.plus_translation.proofs.rows.literal_texts.Goals as goal

pub returns : goal.returns
returns c = literal_texts
