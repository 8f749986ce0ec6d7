use Rattle.std.proofs.Common.{sym, ap, ◌∙◌}
use Rattle.std.proofs.lemmas.List.{length-map}
use Rattle.plus_model.specs.Terms.{State}
use Rattle.plus_state.specs.Changes.{patched}
use Rattle.plus_state.specs.View.{event_of}
use Rattle.plus_cascade.proofs.SetLemmas.{firing_all}
use Rattle.plus_cascade.proofs.FiringLemmas.{after_fits}
use Rattle.plus_cascade.proofs.rounds.round.Goals as goal

pub add-requires : goal.add-requires
add-requires g c =
    let told = (rw c.in-Some.is at c.in_ok-round_changes.ensures.told).1 in
    rw c.deref.ensures.value (firing_all _ c.args.state.now _ _ (length-map c.args.ground.now.events.items (event_of g.Q.Exact.value) ∙ sym c.requires.events) told.all)

pub returns-in-Ok-clause-fits : goal.returns-in-Ok-clause-fits
returns-in-Ok-clause-fits g c = after_fits _ _ c.args.state.now _ c.in-Some.due.changes c.requires.state (c.patch.ensures ∙ ap (λ (s : State). patched s c.in-Some.due.changes) c.in-Ok.ensures)
