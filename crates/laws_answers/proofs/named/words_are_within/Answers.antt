use Rattle.laws_answers.proofs.NamedLemmas as named
use Rattle.laws_answers.proofs.named.words_are_within.Goals as goal

pub returns : goal.returns
returns c = record { plan = named.plan_is_named; lift = named.lift_is_named; translate = named.translate_is_named }
