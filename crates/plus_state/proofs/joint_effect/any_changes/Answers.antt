use Rattle.std.proofs.Common.{map, ap, ◌∙◌, ◌++◌}
use Rattle.plus_state.specs.Due.{dues}
use Rattle.plus_state.specs.View.{effect_of}
use Rattle.plus_state.specs.Stops.{due_of}
use Rattle.plus_state.proofs.ApplyLemmas.{add_stops}
use Rattle.plus_state.proofs.ChangesLemmas.{answered}
use Rattle.plus_state.proofs.joint_effect.any_changes.Goals as goal

pub changes_by-requires : goal.changes_by-requires
changes_by-requires g c = rw c.deref.ensures.value c.add_dues.ensures.fit

pub returns-in-Err-clause-does : goal.returns-in-Err-clause-does
returns-in-Err-clause-does g c = add_stops _ _ _ _ c.in-Err.stop c.in-Err.ensures.added

pub returns-clause-does : goal.returns-clause-does
returns-clause-does g c =
    answered g.Q.Exact.value g.Q.Exact.fits (map (effect_of g.Q.Exact.value) c.args.effects.now) c.args.state.now (map (due_of g.Q.Exact.value) c.deref.result.now) c.changes_by.result c.in-Ok.ensures.added.0
    (ap (map (due_of g.Q.Exact.value)) c.deref.ensures.value ∙ c.in-Ok.ensures.added.1 ∙ ap (λ l. map (due_of g.Q.Exact.value) l ++ dues (map (effect_of g.Q.Exact.value) c.args.effects.now) c.args.state.now) c.new-due.ensures.items) c.changes_by.ensures.does
