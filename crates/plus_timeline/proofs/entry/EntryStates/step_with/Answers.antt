use Rattle.std.proofs.Common.{ap, sym, subst}
use Rattle.std.specs.Prelude.{option_map}
use Rattle.plus_state.specs.Changes.{TrailView, RisesIn}
use Rattle.plus_timeline.specs.EntryStates.{EntryView}
use Rattle.plus_timeline.specs.Undo.{Notes}
use Rattle.plus_timeline.proofs.Entries.{led_on}
use Rattle.plus_timeline.proofs.Noting.{kept_noted, inside_stepped, view_noted, view_stepped, on_err}
use Rattle.plus_timeline.proofs.entry.EntryStates.step_with.Goals as goal

pub invariant_of-self-in_err-self-inside : goal.invariant_of-self-in_err-self-inside
invariant_of-self-in_err-self-inside g c =
    let s = c.self.inside.trail.state in
    let old = option_map (λ u. u.noted) c.self.inside.undo in
    let new = option_map (λ u. u.noted) c.note.new.undo in
    let rises = subst (λ (e : EntryView). RisesIn e.state c.args.changes.now) (sym c.self.view_is) c.requires in
    kept_noted c.self.inside.arrival s c.self.inside.past c.take.new.self c.self.inside.ahead c.args.changes.now old new c.self.invariant c.take.ensures.after rises.within
    (subst (λ x. Notes x c.args.changes.now old new) c.state.ensures c.in_ok-note.ensures.ok)

pub returns-in_err-self-inside-clause-err : goal.returns-in_err-self-inside-clause-err
returns-in_err-self-inside-clause-err g c =
    let s = c.self.inside.trail.state in
    let old = option_map (λ u. u.noted) c.self.inside.undo in
    let new = option_map (λ u. u.noted) c.note.new.undo in
    let rises = subst (λ (e : EntryView). RisesIn e.state c.args.changes.now) (sym c.self.view_is) c.requires in
    on_err c.from_residual-in_err-self-inside.result
    (view_noted s c.self.inside.trail.before c.self.inside.arrival old c.args.self.now c.self.view_is c.args.changes.now new rises.within
    (subst (λ x. Notes x c.args.changes.now old new) c.state.ensures c.in_ok-note.ensures.ok))

pub invariant_of-self-2 : goal.invariant_of-self-2
invariant_of-self-2 g c =
    let s = c.self.inside.trail.state in
    let old = option_map (λ u. u.noted) c.self.inside.undo in
    let new = option_map (λ u. u.noted) c.note.new.undo in
    let rises = subst (λ (e : EntryView). RisesIn e.state c.args.changes.now) (sym c.self.view_is) c.requires in
    let is = ap (λ (t : TrailView). t.state) c.step.ensures in
    record {
      led = led_on _ _ _ _ _ _ _ _ _ c.self.invariant.led rises c.take.ensures.value c.in_ok-self-inside.ensures is c.patch.ensures;
      inside = inside_stepped s c.step.new.self.state c.args.changes.now old new is c.self.invariant.inside rises.within
          (subst (λ x. Notes x c.args.changes.now old new) c.state.ensures c.in_ok-note.ensures.ok);
    }

pub returns-clause-ok : goal.returns-clause-ok
returns-clause-ok g c =
    let s = c.self.inside.trail.state in
    let old = option_map (λ u. u.noted) c.self.inside.undo in
    let new = option_map (λ u. u.noted) c.note.new.undo in
    let rises = subst (λ (e : EntryView). RisesIn e.state c.args.changes.now) (sym c.self.view_is) c.requires in
    view_stepped s c.self.inside.trail.before c.self.inside.arrival old c.args.self.now c.self.view_is c.step.new.self c.args.changes.now new rises.within
    (subst (λ x. Notes x c.args.changes.now old new) c.state.ensures c.in_ok-note.ensures.ok) c.step.ensures
