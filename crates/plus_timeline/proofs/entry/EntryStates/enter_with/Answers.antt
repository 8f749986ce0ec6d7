use Rattle.std.proofs.Common.{length, refl, ap, sym, subst, ◌∙◌}
use Rattle.std.specs.Prelude.{Option, option_map}
use Rattle.plus_model.specs.Terms.{State}
use Rattle.plus_state.specs.Changes.{Changes, RisesIn, Within, patched}
use Rattle.plus_timeline.specs.EntryStates.{EntryView, IsReached, KeepsEntry}
use Rattle.plus_timeline.specs.Undo.{Notes, root_at}
use Rattle.plus_timeline.proofs.Noting.{taken_leads, kept_noted, view_noted, step_of, step_in, ahead_in, view_entered, ahead_entered, kept_entered, on_err}
use Rattle.plus_timeline.proofs.entry.EntryStates.enter_with.Goals as goal

pub returns-in_err-past-clause-err : goal.returns-in_err-past-clause-err
returns-in_err-past-clause-err g c =
    let s = c.self.inside.trail.state in
    let b = c.self.inside.trail.before in
    let a = c.self.inside.arrival in
    let at : Option Changes → EntryView = λ o. record { state = s; before = b; arrival = a; root = root_at s o } in
    on_err c.from_residual.result (ap at c.in_err-past.ensures.err ∙ c.self.view_is)

pub catch_up-requires : goal.catch_up-requires
catch_up-requires g c =
    taken_leads c.self.inside.arrival c.self.inside.trail.state c.state-state.result.now c.self.inside.past c.self.inside.past c.self.inside.ahead c.self.invariant.led refl c.state-state.ensures

pub invariant_of-self-in_err-kept : goal.invariant_of-self-in_err-kept
invariant_of-self-in_err-kept g c =
    let s = c.self.inside.trail.state in
    let old = option_map (λ u. u.noted) c.self.inside.undo in
    let new = option_map (λ u. u.noted) c.note_entry.new.undo in
    let moves = c.args.moves.now in
    let literals = c.args.literals.now in
    let reached = subst (λ (e : EntryView). IsReached e.state moves c.args.ahead.now) (sym c.self.view_is) c.requires.reached in
    let inside = (subst (λ (e : EntryView). RisesIn e.state literals) (sym c.self.view_is) c.requires.literals).within in
    let notes = subst (λ x. Notes x (step_of literals moves) old new) c.state-state.ensures c.in_ok-past.ensures.ok in
    subst (λ a. KeepsEntry a c.catch_up.new.past s c.self.inside.ahead new) (sym c.in_err-kept.ensures.err)
    (kept_noted c.self.inside.arrival s c.self.inside.past c.catch_up.new.past c.self.inside.ahead (step_of literals moves) old new c.self.invariant c.catch_up.ensures.taken
    (step_in (length s.atoms) (length s.fluents) literals moves inside reached.rises.within) notes)

pub returns-in_err-kept-clause-err : goal.returns-in_err-kept-clause-err
returns-in_err-kept-clause-err g c =
    let s = c.self.inside.trail.state in
    let old = option_map (λ u. u.noted) c.self.inside.undo in
    let new = option_map (λ u. u.noted) c.note_entry.new.undo in
    let moves = c.args.moves.now in
    let literals = c.args.literals.now in
    let reached = subst (λ (e : EntryView). IsReached e.state moves c.args.ahead.now) (sym c.self.view_is) c.requires.reached in
    let inside = (subst (λ (e : EntryView). RisesIn e.state literals) (sym c.self.view_is) c.requires.literals).within in
    let notes = subst (λ x. Notes x (step_of literals moves) old new) c.state-state.ensures c.in_ok-past.ensures.ok in
    let b = c.self.inside.trail.before in
    let at : State → EntryView = λ a. record { state = s; before = b; arrival = a; root = root_at s new } in
    on_err c.from_residual-in_err-kept.result
    (ap at c.in_err-kept.ensures.err
    ∙ view_noted s b c.self.inside.arrival old c.args.self.now c.self.view_is (step_of literals moves) new
    (step_in (length s.atoms) (length s.fluents) literals moves inside reached.rises.within) notes)

pub patch-requires : goal.patch-requires
patch-requires g c =
    let moves = c.args.moves.now in
    let reached = subst (λ (e : EntryView). IsReached e.state moves c.args.ahead.now) (sym c.self.view_is) c.requires.reached in
    subst (λ x. Within (length x.atoms) (length x.fluents) moves) (sym (c.in_ok-kept.ensures.ok ∙ c.state-state.ensures)) reached.rises.within

pub patch-requires-2 : goal.patch-requires-2
patch-requires-2 g c =
    let moves = c.args.moves.now in
    let reached = subst (λ (e : EntryView). IsReached e.state moves c.args.ahead.now) (sym c.self.view_is) c.requires.reached in
    let inside = (subst (λ (e : EntryView). RisesIn e.state c.args.literals.now) (sym c.self.view_is) c.requires.literals).within in
    rw c.in_ok-past.ensures.copy (ahead_in _ _ moves c.args.literals.now reached inside)

pub invariant_of-self-2 : goal.invariant_of-self-2
invariant_of-self-2 g c =
    let s = c.self.inside.trail.state in
    let old = option_map (λ u. u.noted) c.self.inside.undo in
    let new = option_map (λ u. u.noted) c.note_entry.new.undo in
    let moves = c.args.moves.now in
    let literals = c.args.literals.now in
    let reached = subst (λ (e : EntryView). IsReached e.state moves c.args.ahead.now) (sym c.self.view_is) c.requires.reached in
    let inside = (subst (λ (e : EntryView). RisesIn e.state literals) (sym c.self.view_is) c.requires.literals).within in
    let notes = subst (λ x. Notes x (step_of literals moves) old new) c.state-state.ensures c.in_ok-past.ensures.ok in
    let steps = c.step.ensures ∙ ap (λ (x : Changes). record { state = patched s x; before = s }) c.swap_atoms.ensures in
    let arrives = c.patch.ensures ∙ ap (λ x. patched x moves) (c.in_ok-kept.ensures.ok ∙ c.state-state.ensures) in
    rw c.none.ensures (kept_entered s c.self.inside.trail.before c.self.inside.arrival old new c.args.self.now c.self.view_is c.step.new.self c.patch.new.self c.args.ahead.now moves literals
    reached c.requires.only inside notes arrives steps c.renewed.result (c.renewed.ensures ∙ c.in_ok-past.ensures.copy) c.self.invariant.inside)

pub returns-clause-ok : goal.returns-clause-ok
returns-clause-ok g c =
    let s = c.self.inside.trail.state in
    let old = option_map (λ u. u.noted) c.self.inside.undo in
    let new = option_map (λ u. u.noted) c.note_entry.new.undo in
    let moves = c.args.moves.now in
    let literals = c.args.literals.now in
    let reached = subst (λ (e : EntryView). IsReached e.state moves c.args.ahead.now) (sym c.self.view_is) c.requires.reached in
    let inside = (subst (λ (e : EntryView). RisesIn e.state literals) (sym c.self.view_is) c.requires.literals).within in
    let notes = subst (λ x. Notes x (step_of literals moves) old new) c.state-state.ensures c.in_ok-past.ensures.ok in
    let steps = c.step.ensures ∙ ap (λ (x : Changes). record { state = patched s x; before = s }) c.swap_atoms.ensures in
    let arrives = c.patch.ensures ∙ ap (λ x. patched x moves) (c.in_ok-kept.ensures.ok ∙ c.state-state.ensures) in
    view_entered s c.self.inside.trail.before c.self.inside.arrival old new c.args.self.now c.self.view_is c.step.new.self c.patch.new.self c.args.ahead.now moves literals
    reached c.requires.only inside notes arrives steps

pub returns-clause-ahead : goal.returns-clause-ahead
returns-clause-ahead g c =
    let s = c.self.inside.trail.state in
    let old = option_map (λ u. u.noted) c.self.inside.undo in
    let new = option_map (λ u. u.noted) c.note_entry.new.undo in
    let moves = c.args.moves.now in
    let literals = c.args.literals.now in
    let reached = subst (λ (e : EntryView). IsReached e.state moves c.args.ahead.now) (sym c.self.view_is) c.requires.reached in
    let inside = (subst (λ (e : EntryView). RisesIn e.state literals) (sym c.self.view_is) c.requires.literals).within in
    let notes = subst (λ x. Notes x (step_of literals moves) old new) c.state-state.ensures c.in_ok-past.ensures.ok in
    let steps = c.step.ensures ∙ ap (λ (x : Changes). record { state = patched s x; before = s }) c.swap_atoms.ensures in
    let arrives = c.patch.ensures ∙ ap (λ x. patched x moves) (c.in_ok-kept.ensures.ok ∙ c.state-state.ensures) in
    ahead_entered s c.self.inside.trail.before c.self.inside.arrival old new c.args.self.now c.self.view_is c.step.new.self c.patch.new.self c.args.ahead.now moves literals
    reached c.requires.only inside notes arrives steps c.patch-2.new.self (c.patch-2.ensures ∙ ap (patched c.args.ahead.now) c.in_ok-past.ensures.copy)
