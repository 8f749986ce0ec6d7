use Rattle.laws_translation.proofs.TypedLemmas.Apart.{typed_is_apart}
use Rattle.laws_translation.proofs.typed.typed_is_apart.Goals as goal

pub returns : goal.returns
returns c = typed_is_apart
