-- How far effects are added.
use Rattle.std.proofs.Common.{◌≡◌, ℕ, ◌<◌, Bool, true, false, List, [], ◌∷◌, ◌++◌, length, refl, ap, sym, subst, ◌∙◌, append_assoc}
use Rattle.std.proofs.lemmas.List.{append-nil}
use Rattle.std.specs.Prelude.{Option, Some, None, if◌then◌else◌}
use Rattle.plus_fraction.specs.Fraction.{Fraction}
use Rattle.plus_model.specs.Terms as model
use Rattle.plus_model.specs.Terms.{Effect, State}
use Rattle.plus_model.specs.Value.{value, holds}
use Rattle.plus_state.specs.declared.term.AssignOp.{AssignOp}
use Rattle.plus_state.specs.Fits.{WriteFits, AllEffectsFit}
use Rattle.plus_state.specs.Due.{Due, DuesFit, due_update, due_write, due_effect, dues}
use Rattle.plus_state.specs.Steps.{Step, Passes, AllPass, FirstStop, effect_steps, add_steps}
use Rattle.plus_state.specs.declared.due.WriteStop.{WriteStop}
use Rattle.plus_state.specs.declared.due.WriteStop.TheVariants.{NoValue, Number}
use Rattle.plus_state.specs.declared.outcome.JointStop.{JointStop}
use Rattle.plus_state.specs.Stops.{write_stop_of, joint_stop_of, StopIs}
use Rattle.plus_state.proofs.Testing.{pass_none, pass_append, fail_left, fail_right}

pub dues_fit_append : (atoms fluents : ℕ) (ds es : List Due) → DuesFit atoms fluents ds → DuesFit atoms fluents es → DuesFit atoms fluents (ds ++ es)
dues_fit_append atoms fluents [] es h k = k
dues_fit_append atoms fluents (d ∷ ds) es h k = (h.0, dues_fit_append atoms fluents ds es h.1 k)

due_update_fits : (atoms fluents f : ℕ) (op : AssignOp) (o : Option Fraction) → f < fluents → DuesFit atoms fluents (due_update f op o)
due_update_fits atoms fluents f op None h = tt
due_update_fits atoms fluents f op (Some x) h = (h, tt)

due_write_fits : (atoms fluents : ℕ) (w : model.Write) (s : State) → WriteFits atoms fluents w → DuesFit atoms fluents (due_write w s)
due_write_fits atoms fluents (model.Add a) s h = (h, tt)
due_write_fits atoms fluents (model.Delete a) s h = (h, tt)
due_write_fits atoms fluents (model.Assign f e) s h = due_update_fits atoms fluents f _ (value e s) h.0
due_write_fits atoms fluents (model.Increase f e) s h = due_update_fits atoms fluents f _ (value e s) h.0
due_write_fits atoms fluents (model.Decrease f e) s h = due_update_fits atoms fluents f _ (value e s) h.0
due_write_fits atoms fluents (model.ScaleUp f e) s h = due_update_fits atoms fluents f _ (value e s) h.0
due_write_fits atoms fluents (model.ScaleDown f e) s h = due_update_fits atoms fluents f _ (value e s) h.0

chosen_fits : (atoms fluents : ℕ) (b : Bool) (ds : List Due) → DuesFit atoms fluents ds → DuesFit atoms fluents (if b then ds else [])
chosen_fits atoms fluents true ds h = h
chosen_fits atoms fluents false ds h = tt

-- the writes that effects make due fit where the effects do
pub due_effect_fits : (atoms fluents : ℕ) (e : Effect) (s : State) → WriteFits atoms fluents e.write → DuesFit atoms fluents (due_effect e s)
due_effect_fits atoms fluents e s h = chosen_fits atoms fluents (holds e.guard s) (due_write e.write s) (due_write_fits atoms fluents e.write s h)

pub record Adding (fits : Fraction → Type 0) (now : List Due) (rest : List Effect) (old : List Due) (whole : List Effect) (s : State) : Type 0 where
  pub effects : AllEffectsFit (length s.atoms) (length s.fluents) rest
  pub due : DuesFit (length s.atoms) (length s.fluents) now
  pub so_far : now ++ dues rest s ≡ old ++ dues whole s
  pub pass : AllPass fits (add_steps rest s) → AllPass fits (add_steps whole s)
  pub stop : (m : Step) → FirstStop fits (add_steps rest s) m → FirstStop fits (add_steps whole s) m

pub adding_start : (fits : Fraction → Type 0) (old : List Due) (whole : List Effect) (s : State) → AllEffectsFit (length s.atoms) (length s.fluents) whole → DuesFit (length s.atoms) (length s.fluents) old → Adding fits old whole old whole s
adding_start fits old whole s h k = record { effects = h; due = k; so_far = refl; pass = λ a. a; stop = λ m u. u }

pub adding_next : (fits : Fraction → Type 0) (now : List Due) (e : Effect) (rest : List Effect) (old : List Due) (whole : List Effect) (s : State) (ds new : List Due) → Adding fits now (e ∷ rest) old whole s → AllPass fits (effect_steps e s) → ds ≡ due_effect e s → new ≡ now ++ ds → Adding fits new rest old whole s
adding_next fits now e rest old whole s ds new h a k n =
    let is : new ≡ now ++ due_effect e s = n ∙ ap (λ (x : List Due). now ++ x) k in
    subst (λ (x : List Due). Adding fits x rest old whole s) (sym is) (record {
      effects = h.effects.1;
      due = dues_fit_append _ _ now (due_effect e s) h.due (due_effect_fits _ _ e s h.effects.0.1);
      so_far = append_assoc now (due_effect e s) (dues rest s) ∙ h.so_far;
      pass = λ r. h.pass (pass_append (Passes fits) _ _ a r);
      stop = λ m u. h.stop m (fail_right (Passes fits) _ _ m a u);
    })

pub adding_stop : (fits : Fraction → Type 0) (now : List Due) (e : Effect) (rest : List Effect) (old : List Due) (whole : List Effect) (s : State) (m : Step) → Adding fits now (e ∷ rest) old whole s → FirstStop fits (effect_steps e s) m → FirstStop fits (add_steps whole s) m
adding_stop fits now e rest old whole s m h u = h.stop m (fail_left (Passes fits) _ _ m u)

pub adding_end : (fits : Fraction → Type 0) (now old : List Due) (whole : List Effect) (s : State) → Adding fits now [] old whole s → AllPass fits (add_steps whole s) × (now ≡ old ++ dues whole s)
adding_end fits now old whole s h = (h.pass (pass_none (Passes fits)), sym (append-nil now) ∙ h.so_far)

-- the stop of one effect
pub stop_is : {Q : Type 0} (v : Q → Fraction) (fits : Fraction → Type 0) (ns : List Step) (stop : WriteStop Q) (joint : JointStop Q) → joint ≡ joint_stop_of stop → FirstStop fits ns (write_stop_of v stop) → StopIs v fits ns joint
stop_is v fits ns (NoValue f) joint e h = subst (StopIs v fits ns) (sym e) h
stop_is v fits ns (Number o) joint e h = subst (StopIs v fits ns) (sym e) h
