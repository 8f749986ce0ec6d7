use Rattle.std.proofs.Common.{sym}
use Rattle.std.specs.Prelude.{[]}
use Rattle.std.proofs.lemmas.List.{length-map}
use Rattle.std.proofs.lemmas.Result.{err_from_is_err_and}
use Rattle.plus_model.specs.Terms.{State}
use Rattle.plus_state.specs.View.{event_of, problem_of}
use Rattle.plus_steps.specs.Stepped.{Rests}
use Rattle.plus_cascade.specs.Fired.{event_numbers}
use Rattle.plus_cascade.proofs.SetLemmas.{firing_all}
use Rattle.plus_cascade.proofs.FiringLemmas.{after_fits}
use Rattle.plus_stepped.proofs.Unfired.{fewer_unfired}
use Rattle.plus_stepped.proofs.Cascades.{cascading_start, cascading_end, cascading_next, cascade_told}
use Rattle.plus_stepped.proofs.rounds.cascade.Goals as goal

pub rounds-init : goal.rounds-init
rounds-init g c =
    cascading_start g.Q.Exact.fits (problem_of g.Q.Exact.value c.args.ground.now) c.args.state _ c.requires.state
    (rw (length-map c.args.ground.now.events.items (event_of g.Q.Exact.value)) c.in_ok-fired.ensures)

pub returns-in_err-round_changes-clause-told : goal.returns-in_err-round_changes-clause-told
returns-in_err-round_changes-clause-told g c =
    let P = problem_of g.Q.Exact.value c.args.ground.now in
    let p = err_from_is_err_and c.from_residual-in_err-round_changes.result c.from_residual-in_err-round_changes.ensures.1 in
    rw (p.1, p.2) (cascade_told g.Q.Exact.value g.Q.Exact.fits P c.args.state c.rounds.now c.rounds.fired (λ (last : State). Rests P [] c.args.state last) c.rounds.invariant c.in_err-round_changes.field-0.0 c.in_err-round_changes.ensures.told.0)

pub returns-in-None-clause-told : goal.returns-in-None-clause-told
returns-in-None-clause-told g c =
    let told = rw c.in-None.is at c.in_ok-round_changes.ensures.told in
    let e = cascading_end g.Q.Exact.fits (problem_of g.Q.Exact.value c.args.ground.now) c.args.state c.rounds.now c.rounds.fired c.rounds.invariant told.0 told.1 in
    record { pass = e.0; does = e.1 }

pub add-requires : goal.add-requires
add-requires g c =
    let told = (rw c.in-Some.is at c.in_ok-round_changes.ensures.told).1 in
    rw c.deref.ensures.value (firing_all (problem_of g.Q.Exact.value c.args.ground.now) c.rounds.now _ _ (sym c.rounds.invariant.size) told.all)

pub rounds-smaller : goal.rounds-smaller
rounds-smaller g c =
    let told = (rw c.in-Some.is at c.in_ok-round_changes.ensures.told).1 in
    let inside = firing_all (problem_of g.Q.Exact.value c.args.ground.now) c.rounds.now _ _ (sym c.rounds.invariant.size) told.all in
    rw (c.add.ensures.set, c.deref.ensures.value) (fewer_unfired c.rounds.fired (event_numbers c.in-Some.due.events.items) told.some inside told.fresh)

pub rounds-preserved : goal.rounds-preserved
rounds-preserved g c =
    let P = problem_of g.Q.Exact.value c.args.ground.now in
    let told = rw c.in-Some.is at c.in_ok-round_changes.ensures.told in
    let fit = after_fits _ _ c.rounds.now _ c.in-Some.due.changes c.rounds.invariant.fit c.patch.ensures in
    rw (c.add.ensures.set, c.deref.ensures.value, c.patch.ensures)
    (cascading_next g.Q.Exact.fits P c.args.state c.rounds.now c.rounds.fired c.rounds.invariant (event_numbers c.in-Some.due.events.items) _ told.0 told.1 (rw c.patch.ensures at fit))
