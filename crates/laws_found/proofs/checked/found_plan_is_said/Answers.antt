use Rattle.laws_found.proofs.CheckedLemmas.Said.{said}
use Rattle.laws_found.proofs.checked.found_plan_is_said.Goals as goal

pub returns : goal.returns
returns c =
    λ domain problem d p q k tries cut plan.
    said domain problem d p q k tries cut plan c.texts_have_plain_names.ensures c.found_plan_is_called.ensures c.written_plan_reads_back.ensures
