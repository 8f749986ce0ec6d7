-- How far the conditions of events are looked at, and how far their effects are added.
use Rattle.std.proofs.Common.{◌≡◌, ℕ, ◌<◌, zero, suc, List, [], ◌∷◌, ◌++◌, length, map, get_or, refl, ap, sym, subst, ◌∙◌, arith, append_assoc}
use Rattle.std.proofs.lemmas.List.{append-nil, get_or-map, length-map}
use Rattle.std.proofs.lemmas.List.Elements.{All-head, All-tail}
use Rattle.std.specs.Prelude.{slice_get}
use Rattle.std.specs.List.{All}
use Rattle.plus_fraction.specs.Fraction.{Fraction}
use Rattle.plus_model.specs.Terms.{Effect, Event, State, Problem}
use Rattle.plus_model.specs.Value.{holds}
use Rattle.plus_model.specs.Firing.{numbers_of, firing, effects_at, effects_of}
use Rattle.plus_state.specs.declared.problem.Event as code
use Rattle.plus_number.specs.declared.exact.Exact.{Ghosts}
use Rattle.plus_state.specs.declared.problem.Ground.{Ground}
use Rattle.plus_state.specs.View.{event_of, effect_of, problem_of}
use Rattle.plus_state.specs.Fits.{EventFits, StateFits}
use Rattle.plus_state.specs.Node.{Node}
use Rattle.plus_state.specs.Changes.{Changes, patched}
use Rattle.plus_state.specs.Due.{Due, DuesFit, dues}
use Rattle.plus_state.specs.Steps.{Step, Passes, AllPass, FirstStop, add_steps}
use Rattle.plus_state.specs.declared.outcome.JointStop.{JointStop}
use Rattle.plus_state.specs.declared.outcome.JointStop.TheVariants.{Conflict, NoValue, Number, Memory}
use Rattle.plus_state.specs.Stops.{StopIs}
use Rattle.plus_state.specs.declared.walk.WalkStop.{WalkStop}
use Rattle.plus_state.specs.declared.walk.WalkStop.TheVariants as walk_stop
use Rattle.plus_state.specs.declared.term.EventId.{EventId}
use Rattle.plus_state.specs.Numbers.{event_numbers}
use Rattle.plus_state.specs.Walk.{event_conditions}
use Rattle.plus_state.specs.Looked.{WalkStops}
use Rattle.plus_state.proofs.LookingLemmas.{numbers_by}
use Rattle.plus_state.proofs.Testing.{pass_none, pass_append, fail_left, fail_right}
use Rattle.plus_state.proofs.ApplyLemmas.{add_steps-append, dues-append}
use Rattle.plus_state.proofs.PatchLemmas.{same_atoms, same_fluents}
use Rattle.plus_cascade.specs.Rounds.{of_walk, ConditionStops}

-- ids fit in a state for as many atoms and fluents
pub all_fit : (atoms fluents : ℕ) (s : State) (es : List Event) → StateFits atoms fluents s → All (EventFits atoms fluents) es → All (EventFits (length s.atoms) (length s.fluents)) es
all_fit atoms fluents s es k h =
    subst (λ (n : ℕ). All (EventFits n (length s.fluents)) es) (sym k.atoms_fit) (subst (λ (n : ℕ). All (EventFits atoms n) es) (sym k.fluents_fit) h)

-- an event of the list
module _ {Q : Type 0} (v : Q → Fraction) where
  pub event_fits : (atoms fluents : ℕ) (items : List (code.Event Q)) (i : ℕ) (x : code.Event Q) → i < length items → x ≡ get_or items i x → All (EventFits atoms fluents) (map (event_of v) items) → EventFits atoms fluents (event_of v x)
  event_fits atoms fluents items i x h e a =
      let inside : i < length (map (event_of v) items) = rw length-map h in
      subst (EventFits atoms fluents) (get_or-map (event_of v) items i x _ h ∙ ap (event_of v) (sym e)) (a i (event_of v x) inside)

  pub effects_here : (items : List (code.Event Q)) (i : ℕ) (x : code.Event Q) → i < length items → x ≡ get_or items i x → effects_at (slice_get (map (event_of v) items) i) ≡ map (effect_of v) x.effects.items
  effects_here [] i x h e = absurd (omega arith)
  effects_here (y ∷ items) zero x h e = ap (λ (z : code.Event Q). map (effect_of v) z.effects.items) (sym e)
  effects_here (y ∷ items) (suc i) x h e = effects_here items i x (omega arith) e

-- the events that a walk over the conditions of all finds
pub firing_found : (P : Problem) (s : State) (found : List ℕ) → found ≡ numbers_of (λ c. holds c s) 0 (event_conditions P) → found ≡ firing P s
unfolding firing
firing_found P s found h = h ∙ numbers_by (λ (e : Event). e.condition) s 0 P.events

pub walk_stops : {Q : Type 0} (v : Q → Fraction) (fits : Fraction → Type 0) (ns : List Node) (stop : WalkStop Q) → WalkStops v fits ns stop → ConditionStops v fits ns (of_walk stop)
walk_stops v fits ns (walk_stop.Number o) u = u
walk_stops v fits ns walk_stop.Memory u = tt

-- how far the writes of events are gathered
pub record Joining (fits : Fraction → Type 0) (P : Problem) (due : List Due) (rest whole : List ℕ) (s : State) : Type 0 where
  pub fit : DuesFit (length s.atoms) (length s.fluents) due
  pub inside : All (λ e. e < length P.events) rest
  pub so_far : due ++ dues (effects_of P rest) s ≡ dues (effects_of P whole) s
  pub pass : AllPass fits (add_steps (effects_of P rest) s) → AllPass fits (add_steps (effects_of P whole) s)
  pub stop : (m : Step) → FirstStop fits (add_steps (effects_of P rest) s) m → FirstStop fits (add_steps (effects_of P whole) s) m

pub joining_start : (fits : Fraction → Type 0) (P : Problem) (due : List Due) (whole : List ℕ) (s : State) → due ≡ [] → All (λ e. e < length P.events) whole → Joining fits P due whole whole s
joining_start fits P due whole s d h = record {
  fit = subst (DuesFit (length s.atoms) (length s.fluents)) (sym d) tt;
  inside = h;
  so_far = ap (λ (x : List Due). x ++ dues (effects_of P whole) s) d;
  pass = λ a. a;
  stop = λ m u. u;
}

module _ (fits : Fraction → Type 0) (P : Problem) (due : List Due) (e : ℕ) (rest whole : List ℕ) (s : State) (es : List Effect) (h : Joining fits P due (e ∷ rest) whole s) (k : effects_at (slice_get P.events e) ≡ es) where
  here : effects_of P (e ∷ rest) ≡ es ++ effects_of P rest
  unfolding effects_of
  here = ap (λ (x : List Effect). x ++ effects_of P rest) k

  steps_here : add_steps (effects_of P (e ∷ rest)) s ≡ add_steps es s ++ add_steps (effects_of P rest) s
  steps_here = ap (λ (x : List Effect). add_steps x s) here ∙ add_steps-append es (effects_of P rest) s

  pub joining_next : (new : List Due) → DuesFit (length s.atoms) (length s.fluents) new → AllPass fits (add_steps es s) → new ≡ due ++ dues es s → Joining fits P new rest whole s
  joining_next new b a n = record {
    fit = b;
    inside = All-tail (λ e. e < length P.events) e rest h.inside;
    so_far = ap (λ (x : List Due). x ++ dues (effects_of P rest) s) n ∙ append_assoc due (dues es s) (dues (effects_of P rest) s)
        ∙ ap (λ (x : List Due). due ++ x) (sym (ap (λ (x : List Effect). dues x s) here ∙ dues-append es (effects_of P rest) s)) ∙ h.so_far;
    pass = λ r. h.pass (subst (AllPass fits) (sym steps_here) (pass_append (Passes fits) _ _ a r));
    stop = λ m u. h.stop m (subst (λ (ns : List Step). FirstStop fits ns m) (sym steps_here) (fail_right (Passes fits) _ _ m a u));
  }

  joining_stop : (m : Step) → FirstStop fits (add_steps es s) m → FirstStop fits (add_steps (effects_of P whole) s) m
  joining_stop m u = h.stop m (subst (λ (ns : List Step). FirstStop fits ns m) (sym steps_here) (fail_left (Passes fits) _ _ m u))

pub below_all : {Q : Type 0} {E : Ghosts Q} (v : Q → Fraction) (g : Ground Q E) (es : List ℕ) → All (λ e. e < length g.events.items) es → All (λ e. e < length (problem_of v g).events) es
below_all v g es h = subst (λ (n : ℕ). All (λ e. e < n) es) (sym (length-map g.events.items (event_of v))) h

-- the stop of the effects of one event
pub joining_stops : {Q : Type 0} (v : Q → Fraction) (fits : Fraction → Type 0) (P : Problem) (due : List Due) (e : ℕ) (rest whole : List ℕ) (s : State) (es : List Effect) → Joining fits P due (e ∷ rest) whole s → effects_at (slice_get P.events e) ≡ es → (stop : JointStop Q) → StopIs v fits (add_steps es s) stop → StopIs v fits (add_steps (effects_of P whole) s) stop
joining_stops v fits P due e rest whole s es h k (Conflict f) u = joining_stop fits P due e rest whole s es h k _ u
joining_stops v fits P due e rest whole s es h k (NoValue f) u = joining_stop fits P due e rest whole s es h k _ u
joining_stops v fits P due e rest whole s es h k (Number o) u = joining_stop fits P due e rest whole s es h k _ u
joining_stops v fits P due e rest whole s es h k Memory u = tt

-- the next event is one of the list
pub joining_inside : {Q : Type 0} {E : Ghosts Q} (v : Q → Fraction) (fits : Fraction → Type 0) (g : Ground Q E) (due : List Due) (e : ℕ) (rest whole : List ℕ) (s : State) → Joining fits (problem_of v g) due (e ∷ rest) whole s → e < length g.events.items
joining_inside v fits g due e rest whole s h =
    let below : e < length (map (event_of v) g.events.items) = All-head (λ e. e < length (map (event_of v) g.events.items)) e rest h.inside in
    rw length-map at below

pub joining_end : (fits : Fraction → Type 0) (P : Problem) (due : List Due) (whole : List ℕ) (s : State) → Joining fits P due [] whole s → AllPass fits (add_steps (effects_of P whole) s) × (due ≡ dues (effects_of P whole) s)
unfolding effects_of
joining_end fits P due whole s h = (h.pass (pass_none (Passes fits)), sym (append-nil due) ∙ h.so_far)

-- a list of one event, and what it does
pub one_number : (xs : List EventId) (d : EventId) → length xs ≡ 1 → event_numbers xs ≡ (get_or xs 0 d).0 ∷ []
one_number [] d h = absurd (omega arith)
one_number (x ∷ []) d h = refl
one_number (x ∷ y ∷ xs) d h = absurd (omega arith)

pub one_inside : (n : ℕ) (xs : List EventId) (d : EventId) → length xs ≡ 1 → All (λ e. e < n) (event_numbers xs) → (get_or xs 0 d).0 < n
one_inside n [] d h a = absurd (omega arith)
one_inside n (x ∷ xs) d h a = All-head (λ e. e < n) x.0 (event_numbers xs) a

pub effects_of_one : (P : Problem) (e : ℕ) (es : List Effect) → effects_at (slice_get P.events e) ≡ es → effects_of P (e ∷ []) ≡ es
unfolding effects_of
effects_of_one P e es k = append-nil (effects_at (slice_get P.events e)) ∙ k

-- the state after changes is one for as many atoms and fluents
pub after_fits : (atoms fluents : ℕ) (s t : State) (c : Changes) → StateFits atoms fluents s → t ≡ patched s c → StateFits atoms fluents t
after_fits atoms fluents s t c h e =
    subst (StateFits atoms fluents) (sym e) (record { atoms_fit = same_atoms s c ∙ h.atoms_fit; fluents_fit = same_fluents s c ∙ h.fluents_fit })
