use Rattle.laws_translation.proofs.TextLemmas.Counts.{few_in_text}
use Rattle.laws_translation.proofs.text.few_in_text.Goals as goal

pub returns : goal.returns
returns c = few_in_text
