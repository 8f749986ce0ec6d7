use Rattle.laws_translation.proofs.TextLemmas.TextLaws.{translation_reads_again}
use Rattle.laws_translation.proofs.text.translation_reads_again.Goals as goal

pub returns : goal.returns
returns c = translation_reads_again
