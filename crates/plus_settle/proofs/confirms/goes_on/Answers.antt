use Rattle.plus_state.specs.View.{problem_of}
use Rattle.plus_state.proofs.LookingLemmas.{all_processes}
use Rattle.plus_settle.proofs.AmongLemmas.{all_confirmed}
use Rattle.plus_settle.proofs.ConfirmsLemmas.{differs_stops}
use Rattle.plus_settle.proofs.confirms.goes_on.Goals as goal

pub first_other-requires-clause-looked : goal.first_other-requires-clause-looked
first_other-requires-clause-looked g c = all_processes g.Q.Exact.value c.args.ground.now _ c.all.ensures

pub first_other-requires-clause-others : goal.first_other-requires-clause-others
first_other-requires-clause-others g c = all_confirmed _ (problem_of g.Q.Exact.value c.args.ground.now) _ _ _ _ c.all.ensures

pub returns-in-Ok-Some : goal.returns-in-Ok-Some
returns-in-Ok-Some g c =
    let h = rw (c.in-Ok-Some.field-0-is, c.deref.ensures.value) at c.in-Ok-Some.ensures in
    (h.0, ((λ e. cc), (λ k. absurd (differs_stops (problem_of g.Q.Exact.value c.args.ground.now) _ _ _ _ h.2 k))))
