use Rattle.laws_translation.proofs.TypedLemmas.TypedLaws.{translation_is_typed}
use Rattle.laws_translation.proofs.typed.translation_is_typed.Goals as goal

pub returns : goal.returns
returns c = translation_is_typed
