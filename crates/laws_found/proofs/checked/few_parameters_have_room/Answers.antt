use Rattle.laws_found.proofs.CheckedLemmas.Few.{few_have_room}
use Rattle.laws_found.proofs.checked.few_parameters_have_room.Goals as goal

pub returns : goal.returns
returns c =
    let decided = c.decisions_are_actions.ensures in
    let calls = c.actions_are_called.ensures in
    λ domain problem d p q k tries cut plan.
    few_have_room domain problem d p q k tries cut plan c.texts_have_plain_names.ensures
    decided.labels decided.ground decided.times calls.called calls.written calls.plain c.few_arguments_have_room.ensures
