use Rattle.laws_translation.proofs.ReadLaws.{translation_is_read}
use Rattle.laws_translation.proofs.read.translation_is_read.Goals as goal

pub returns : goal.returns
returns c = translation_is_read
