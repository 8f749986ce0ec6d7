-- `fire` in the translation is one round.
use Rattle.std.proofs.Common.{◌≡◌, ◌≢◌, ℕ, zero, suc, ◌<◌, ◌≤◌, ◌+◌, Bool, true, false, not, ◌&&◌, ◌||◌, List, [], ◌∷◌, ◌++◌, length, map, refl, ap, ap₂, sym, ◌∙◌, arith, append_assoc, length-append}
use Rattle.std.proofs.lemmas.Bool.Decides.{nat_tests}
use Rattle.std.proofs.lemmas.List.Elements.{All-head, All-tail}
use Rattle.std.specs.Prelude.{Option, Some, Ok, nat_eq, slice_get, find, if◌then◌else◌}
use Rattle.std.specs.List.{All}
use Rattle.plus_fraction.specs.Fraction.{Fraction}
use Rattle.plus_model.specs.Terms.{Effect, Event, State, Problem, Add}
use Rattle.plus_model.specs.Value.{holds}
use Rattle.plus_model.specs.Joint.{Stays, change_of}
use Rattle.plus_model.specs.Firing.{firing, effects_at, effects_of, is_in, first_shared}
use Rattle.plus_model.specs.Plan.{Called}
use Rattle.plus_state.specs.Fits.{StateFits}
use Rattle.plus_steps.specs.Stepped.{Does}
use Rattle.plus_steps.specs.Laws.{EventInside, CanBeStepped}
use Rattle.plus_steps.specs.Translation.{fire_action, fires_from, fires_with, whenever, some_hold, fresh_from, has_clock, clock_value}
use Rattle.plus_steps.proofs.Pads.{marks_from, pad}
use Rattle.plus_steps.proofs.Mirrors.{FireDoes}
use Rattle.plus_steps.proofs.Tally.{when, change_gains, change_loses, change_written, change_fine, both_written, gained, lost, wrote, fine, atoms_by, values_by, gained-append, lost-append, wrote-append, fine-append}
use Rattle.plus_steps.proofs.Inside.{longer, holds_same, gained_same, lost_same, wrote_same, fine_same, none_gained, none_lost, none_wrote}
use Rattle.plus_steps.proofs.Apart.{Alike, joint_on, joint_from}
use Rattle.plus_steps.proofs.Conds.{firing_from, firing_same, some_is, fresh_is, mark_is, is_empty, is_missing, missing_is}
use Rattle.plus_steps.proofs.Marks.{or_false, and_true, stays_right, clock_stays}
use Rattle.plus_steps.proofs.OldStep.{both_true}

-- ---- the effects of the events that hold
abbrev pub fired_effects : List Event → State → List Effect
fired_effects [] s = []
fired_effects (e ∷ es) s = if holds e.condition s then e.effects ++ fired_effects es s else fired_effects es s

at_place : (pre : List Event) (e : Event) (es : List Event) → slice_get (pre ++ e ∷ es) (length pre) ≡ Some e
at_place [] e es = refl
at_place (x ∷ pre) e es = at_place pre e es

effects_from : (P : Problem) (s : State) (k : ℕ) (pre es : List Event) → P.events ≡ pre ++ es → k ≡ length pre → effects_of P (firing_from s k es) ≡ fired_effects es s
unfolding effects_of
effects_from P s k pre [] h g = refl
effects_from P s k pre (e ∷ es) h g =
    let rest = effects_from P s (suc k) (pre ++ e ∷ []) es (h ∙ sym (append_assoc pre (e ∷ []) es)) (omega (arith, g, length-append pre (e ∷ []))) in
    let here : effects_at (slice_get P.events k) ≡ e.effects = ap₂ (λ xs (i : ℕ). effects_at (slice_get xs i)) h g ∙ ap effects_at (at_place pre e es) in
    by (holds e.condition s) rest here
  where
    by : (b : Bool) → effects_of P (firing_from s (suc k) es) ≡ fired_effects es s → effects_at (slice_get P.events k) ≡ e.effects → effects_of P (if b then k ∷ firing_from s (suc k) es else firing_from s (suc k) es) ≡ (if b then e.effects ++ fired_effects es s else fired_effects es s)
    by true rest here = ap₂ (λ x y. x ++ y) here rest
    by false rest here = rest

pub effects_are : (P : Problem) (s : State) → effects_of P (firing P s) ≡ fired_effects P.events s
unfolding firing
effects_are P s = effects_from P s 0 [] P.events refl refl

module _ (t : State) (e : Event) where
  event_gains : (a : ℕ) (es : List Effect) → gained a (map (fires_with e) es) t ≡ when (holds e.condition t) (gained a es t) false
  unfolding gained
  event_gains a es = by (holds e.condition t) refl es
    where
      by : (b : Bool) → b ≡ holds e.condition t → (es : List Effect) → gained a (map (fires_with e) es) t ≡ when b (gained a es t) false
      by true h [] = refl
      by false h [] = refl
      by true h (x ∷ es) = ap₂ (λ (c : Bool) y. when (c && holds x.guard t) (change_gains a (change_of x.write t)) false || y) (sym h) (by true h es)
      by false h (x ∷ es) = ap₂ (λ (c : Bool) y. when (c && holds x.guard t) (change_gains a (change_of x.write t)) false || y) (sym h) (by false h es)

  event_loses : (a : ℕ) (es : List Effect) → lost a (map (fires_with e) es) t ≡ when (holds e.condition t) (lost a es t) false
  unfolding lost
  event_loses a es = by (holds e.condition t) refl es
    where
      by : (b : Bool) → b ≡ holds e.condition t → (es : List Effect) → lost a (map (fires_with e) es) t ≡ when b (lost a es t) false
      by true h [] = refl
      by false h [] = refl
      by true h (x ∷ es) = ap₂ (λ (c : Bool) y. when (c && holds x.guard t) (change_loses a (change_of x.write t)) false || y) (sym h) (by true h es)
      by false h (x ∷ es) = ap₂ (λ (c : Bool) y. when (c && holds x.guard t) (change_loses a (change_of x.write t)) false || y) (sym h) (by false h es)

  event_writes : (f : ℕ) (es : List Effect) → wrote f (map (fires_with e) es) t ≡ when (holds e.condition t) (wrote f es t) Stays
  unfolding wrote
  event_writes f es = by (holds e.condition t) refl es
    where
      by : (b : Bool) → b ≡ holds e.condition t → (es : List Effect) → wrote f (map (fires_with e) es) t ≡ when b (wrote f es t) Stays
      by true h [] = refl
      by false h [] = refl
      by true h (x ∷ es) = ap₂ (λ (c : Bool) y. both_written (when (c && holds x.guard t) (change_written f (change_of x.write t)) Stays) y) (sym h) (by true h es)
      by false h (x ∷ es) = ap₂ (λ (c : Bool) y. both_written (when (c && holds x.guard t) (change_written f (change_of x.write t)) Stays) y) (sym h) (by false h es)

  event_fine : (es : List Effect) → fine (map (fires_with e) es) t ≡ when (holds e.condition t) (fine es t) true
  unfolding fine
  event_fine es = by (holds e.condition t) refl es
    where
      by : (b : Bool) → b ≡ holds e.condition t → (es : List Effect) → fine (map (fires_with e) es) t ≡ when b (fine es t) true
      by true h [] = refl
      by false h [] = refl
      by true h (x ∷ es) = ap₂ (λ (c : Bool) y. when (c && holds x.guard t) (change_fine (change_of x.write t)) true && y) (sym h) (by true h es)
      by false h (x ∷ es) = ap₂ (λ (c : Bool) y. when (c && holds x.guard t) (change_fine (change_of x.write t)) true && y) (sym h) (by false h es)

when_same : {A : Type 0} (b : Bool) (d : A) → when b d d ≡ d
when_same true d = refl
when_same false d = refl

-- ---- all of them, on the old atoms and fluents
module _ (n m : ℕ) (s : State) (bs : List Bool) (vs : List (Option Fraction)) (z : StateFits n m s) where
  abbrev t : State
  t = longer s bs vs

  mark_unseen : (a c : ℕ) → a < n → n ≤ c → (b : Bool) → when b (nat_eq a c) false ≡ false
  mark_unseen a c h k b = ap (λ x. when b x false) (grind (arith, nat_tests)) ∙ when_same b false

  fires_gain : (a c : ℕ) (es : List Event) → a < n → n ≤ c → All (EventInside n m) es → gained a (fires_from c es) t ≡ gained a (fired_effects es s) s
  unfolding gained
  fires_gain a c [] h k f = refl
  fires_gain a c (e ∷ es) h k f =
      let here = All-head (EventInside n m) e es f in
      let rest = fires_gain a (suc c) es h (omega arith) (All-tail (EventInside n m) e es f) in
      let b : holds e.condition t ≡ holds e.condition s = holds_same n m s bs vs z e.condition here.condition in
      gained-append t a (map (fires_with e) e.effects ++ whenever e.condition (Add c) ∷ []) (fires_from (suc c) es)
      ∙ ap₂ (λ x y. x || y)
      (gained-append t a (map (fires_with e) e.effects) (whenever e.condition (Add c) ∷ [])
      ∙ ap₂ (λ x y. x || y) (event_gains t e a e.effects ∙ ap₂ (λ (d : Bool) x. when d x false) b (gained_same n m s bs vs z a e.effects here.effects)) (ap (λ x. x || false) (mark_unseen a c h k (holds e.condition t)))
      ∙ or_false (when (holds e.condition s) (gained a e.effects s) false))
      rest
      ∙ by (holds e.condition s)
    where
      by : (d : Bool) → when d (gained a e.effects s) false || gained a (fired_effects es s) s ≡ gained a (if d then e.effects ++ fired_effects es s else fired_effects es s) s
      by true = sym (gained-append s a e.effects (fired_effects es s))
      by false = refl

  fires_lose : (a c : ℕ) (es : List Event) → All (EventInside n m) es → lost a (fires_from c es) t ≡ lost a (fired_effects es s) s
  unfolding lost
  fires_lose a c [] f = refl
  fires_lose a c (e ∷ es) f =
      let here = All-head (EventInside n m) e es f in
      let rest = fires_lose a (suc c) es (All-tail (EventInside n m) e es f) in
      let b : holds e.condition t ≡ holds e.condition s = holds_same n m s bs vs z e.condition here.condition in
      lost-append t a (map (fires_with e) e.effects ++ whenever e.condition (Add c) ∷ []) (fires_from (suc c) es)
      ∙ ap₂ (λ x y. x || y)
      (lost-append t a (map (fires_with e) e.effects) (whenever e.condition (Add c) ∷ [])
      ∙ ap₂ (λ x y. x || y) (event_loses t e a e.effects ∙ ap₂ (λ (d : Bool) x. when d x false) b (lost_same n m s bs vs z a e.effects here.effects)) (ap (λ x. x || false) (when_same (holds e.condition t) false))
      ∙ or_false (when (holds e.condition s) (lost a e.effects s) false))
      rest
      ∙ by (holds e.condition s)
    where
      by : (d : Bool) → when d (lost a e.effects s) false || lost a (fired_effects es s) s ≡ lost a (if d then e.effects ++ fired_effects es s else fired_effects es s) s
      by true = sym (lost-append s a e.effects (fired_effects es s))
      by false = refl

  fires_write : (f c : ℕ) (es : List Event) → All (EventInside n m) es → wrote f (fires_from c es) t ≡ wrote f (fired_effects es s) s
  unfolding wrote
  fires_write f c [] g = refl
  fires_write f c (e ∷ es) g =
      let here = All-head (EventInside n m) e es g in
      let rest = fires_write f (suc c) es (All-tail (EventInside n m) e es g) in
      let b : holds e.condition t ≡ holds e.condition s = holds_same n m s bs vs z e.condition here.condition in
      wrote-append t f (map (fires_with e) e.effects ++ whenever e.condition (Add c) ∷ []) (fires_from (suc c) es)
      ∙ ap₂ both_written
      (wrote-append t f (map (fires_with e) e.effects) (whenever e.condition (Add c) ∷ [])
      ∙ ap₂ both_written (event_writes t e f e.effects ∙ ap₂ (λ (d : Bool) x. when d x Stays) b (wrote_same n m s bs vs z f e.effects here.effects)) (ap (λ x. both_written x Stays) (when_same (holds e.condition t) Stays))
      ∙ stays_right (when (holds e.condition s) (wrote f e.effects s) Stays))
      rest
      ∙ by (holds e.condition s)
    where
      by : (d : Bool) → both_written (when d (wrote f e.effects s) Stays) (wrote f (fired_effects es s) s) ≡ wrote f (if d then e.effects ++ fired_effects es s else fired_effects es s) s
      by true = sym (wrote-append s f e.effects (fired_effects es s))
      by false = refl

  fires_fine : (c : ℕ) (es : List Event) → All (EventInside n m) es → fine (fires_from c es) t ≡ fine (fired_effects es s) s
  unfolding fine
  fires_fine c [] g = refl
  fires_fine c (e ∷ es) g =
      let here = All-head (EventInside n m) e es g in
      let rest = fires_fine (suc c) es (All-tail (EventInside n m) e es g) in
      let b : holds e.condition t ≡ holds e.condition s = holds_same n m s bs vs z e.condition here.condition in
      fine-append t (map (fires_with e) e.effects ++ whenever e.condition (Add c) ∷ []) (fires_from (suc c) es)
      ∙ ap₂ (λ x y. x && y)
      (fine-append t (map (fires_with e) e.effects) (whenever e.condition (Add c) ∷ [])
      ∙ ap₂ (λ x y. x && y) (event_fine t e e.effects ∙ ap₂ (λ (d : Bool) x. when d x true) b (fine_same n m s bs vs z e.effects here.effects)) (ap (λ x. x && true) (when_same (holds e.condition t) true))
      ∙ and_true (when (holds e.condition s) (fine e.effects s) true))
      rest
      ∙ by (holds e.condition s)
    where
      by : (d : Bool) → when d (fine e.effects s) true && fine (fired_effects es s) s ≡ fine (if d then e.effects ++ fired_effects es s else fired_effects es s) s
      by true = sym (fine-append s e.effects (fired_effects es s))
      by false = refl

-- ---- the marks
not_below : (t : State) (i k : ℕ) (es : List Event) → i < k → is_in (firing_from t k es) i ≡ false
not_below t i k [] h = refl
not_below t i k (e ∷ es) h = by (holds e.condition t) (not_below t i (suc k) es (omega arith)) (grind (arith, nat_tests))
  where
    by : (b : Bool) → is_in (firing_from t (suc k) es) i ≡ false → nat_eq i k ≡ false → is_in (if b then k ∷ firing_from t (suc k) es else firing_from t (suc k) es) i ≡ false
    by true r x = ap₂ (λ x y. x || y) x r
    by false r x = r

module _ (n m : ℕ) (t : State) where
  marks_outside : (i c : ℕ) (es : List Event) → n ≤ i → i < c → All (EventInside n m) es → gained i (fires_from c es) t ≡ false
  unfolding gained
  marks_outside i c [] h k f = refl
  marks_outside i c (e ∷ es) h k f =
      let here = All-head (EventInside n m) e es f in
      gained-append t i (map (fires_with e) e.effects ++ whenever e.condition (Add c) ∷ []) (fires_from (suc c) es)
      ∙ ap₂ (λ x y. x || y)
      (gained-append t i (map (fires_with e) e.effects) (whenever e.condition (Add c) ∷ [])
      ∙ ap₂ (λ x y. x || y) (event_gains t e i e.effects ∙ ap (λ x. when (holds e.condition t) x false) (none_gained n m t i h e.effects here.effects) ∙ when_same (holds e.condition t) false)
      (ap (λ x. when (holds e.condition t) x false || false) (below i c k) ∙ ap (λ x. x || false) (when_same (holds e.condition t) false)))
      (marks_outside i (suc c) es h (omega arith) (All-tail (EventInside n m) e es f))
    where
      below : (i c : ℕ) → i < c → nat_eq i c ≡ false
      below i c k = grind (arith, nat_tests)

  -- the mark of an event is gained where the event fires
  marks_gained : (c k j : ℕ) (es : List Event) → n ≤ c → All (EventInside n m) es → gained (c + j) (fires_from c es) t ≡ is_in (firing_from t k es) (k + j)
  unfolding gained
  marks_gained c k j [] h f = refl
  marks_gained c k zero (e ∷ es) h f =
      let here = All-head (EventInside n m) e es f in
      gained-append t (c + 0) (map (fires_with e) e.effects ++ whenever e.condition (Add c) ∷ []) (fires_from (suc c) es)
      ∙ ap₂ (λ x y. x || y)
      (gained-append t (c + 0) (map (fires_with e) e.effects) (whenever e.condition (Add c) ∷ [])
      ∙ ap₂ (λ x y. x || y) (event_gains t e (c + 0) e.effects ∙ ap (λ x. when (holds e.condition t) x false) (none_gained n m t (c + 0) (omega arith) e.effects here.effects) ∙ when_same (holds e.condition t) false)
      (ap (λ x. when (holds e.condition t) x false || false) (same c)))
      (marks_outside (c + 0) (suc c) es (omega arith) (omega arith) (All-tail (EventInside n m) e es f))
      ∙ by (holds e.condition t) (not_below t (k + 0) (suc k) es (omega arith)) (same k)
    where
      same : (c : ℕ) → nat_eq (c + 0) c ≡ true
      same c = grind (arith, nat_tests)

      by : (b : Bool) → is_in (firing_from t (suc k) es) (k + 0) ≡ false → nat_eq (k + 0) k ≡ true → (false || (when b true false || false)) || false ≡ is_in (if b then k ∷ firing_from t (suc k) es else firing_from t (suc k) es) (k + 0)
      by true r x = sym (ap₂ (λ x y. x || y) x r)
      by false r x = sym r
  marks_gained c k (suc j) (e ∷ es) h f =
      let here = All-head (EventInside n m) e es f in
      let cj : c + suc j ≡ suc c + j = omega arith in
      let kj : suc k + j ≡ k + suc j = omega arith in
      gained-append t (c + suc j) (map (fires_with e) e.effects ++ whenever e.condition (Add c) ∷ []) (fires_from (suc c) es)
      ∙ ap₂ (λ x y. x || y)
      (gained-append t (c + suc j) (map (fires_with e) e.effects) (whenever e.condition (Add c) ∷ [])
      ∙ ap₂ (λ x y. x || y) (event_gains t e (c + suc j) e.effects ∙ ap (λ x. when (holds e.condition t) x false) (none_gained n m t (c + suc j) (omega arith) e.effects here.effects) ∙ when_same (holds e.condition t) false)
      (ap (λ x. when (holds e.condition t) x false || false) (above c j) ∙ ap (λ x. x || false) (when_same (holds e.condition t) false)))
      (ap (λ (i : ℕ). gained i (fires_from (suc c) es) t) cj ∙ marks_gained (suc c) (suc k) j es (omega arith) (All-tail (EventInside n m) e es f) ∙ ap (λ (i : ℕ). is_in (firing_from t (suc k) es) i) kj)
      ∙ by (holds e.condition t) (above k j)
    where
      above : (c j : ℕ) → nat_eq (c + suc j) c ≡ false
      above c j = grind (arith, nat_tests)

      by : (b : Bool) → nat_eq (k + suc j) k ≡ false → (false || false) || is_in (firing_from t (suc k) es) (k + suc j) ≡ is_in (if b then k ∷ firing_from t (suc k) es else firing_from t (suc k) es) (k + suc j)
      by true x = sym (ap (λ y. y || is_in (firing_from t (suc k) es) (k + suc j)) x)
      by false x = refl

  marks_kept : (i c : ℕ) (es : List Event) → n ≤ i → All (EventInside n m) es → lost i (fires_from c es) t ≡ false
  unfolding lost
  marks_kept i c [] h f = refl
  marks_kept i c (e ∷ es) h f =
      let here = All-head (EventInside n m) e es f in
      lost-append t i (map (fires_with e) e.effects ++ whenever e.condition (Add c) ∷ []) (fires_from (suc c) es)
      ∙ ap₂ (λ x y. x || y)
      (lost-append t i (map (fires_with e) e.effects) (whenever e.condition (Add c) ∷ [])
      ∙ ap₂ (λ x y. x || y) (event_loses t e i e.effects ∙ ap (λ x. when (holds e.condition t) x false) (none_lost n m t i h e.effects here.effects) ∙ when_same (holds e.condition t) false)
      (ap (λ x. x || false) (when_same (holds e.condition t) false)))
      (marks_kept i (suc c) es h (All-tail (EventInside n m) e es f))

  clock_kept : (f c : ℕ) (es : List Event) → m ≤ f → All (EventInside n m) es → wrote f (fires_from c es) t ≡ Stays
  unfolding wrote
  clock_kept f c [] h g = refl
  clock_kept f c (e ∷ es) h g =
      let here = All-head (EventInside n m) e es g in
      wrote-append t f (map (fires_with e) e.effects ++ whenever e.condition (Add c) ∷ []) (fires_from (suc c) es)
      ∙ ap₂ both_written
      (wrote-append t f (map (fires_with e) e.effects) (whenever e.condition (Add c) ∷ [])
      ∙ ap₂ both_written (event_writes t e f e.effects ∙ ap (λ x. when (holds e.condition t) x Stays) (none_wrote n m t f h e.effects here.effects) ∙ when_same (holds e.condition t) Stays)
      (ap (λ x. both_written x Stays) (when_same (holds e.condition t) Stays)))
      (clock_kept f (suc c) es h (All-tail (EventInside n m) e es g))

is_in-append : (xs ys : List ℕ) (i : ℕ) → is_in (xs ++ ys) i ≡ is_in xs i || is_in ys i
is_in-append [] ys i = refl
is_in-append (x ∷ xs) ys i = ap (λ y. nat_eq i x || y) (is_in-append xs ys i) ∙ or_assoc (nat_eq i x) (is_in xs i) (is_in ys i)
  where
    or_assoc : (x y z : Bool) → x || (y || z) ≡ (x || y) || z
    or_assoc true y z = refl
    or_assoc false y z = refl

or_comm : (x y : Bool) → x || y ≡ y || x
or_comm true true = refl
or_comm true false = refl
or_comm false true = refl
or_comm false false = refl

-- marks of which those of these events are gained and none is lost
marks_after : (es : List Effect) (t : State) (fired more : List ℕ) (c k : ℕ) (events : List Event) → ((j : ℕ) → (gained (c + j) es t ≡ is_in more (k + j)) × (lost (c + j) es t ≡ false)) → atoms_by c es t (marks_from fired k events) ≡ marks_from (fired ++ more) k events
marks_after es t fired more c k [] h = refl
marks_after es t fired more c k (e ∷ events) h =
    let c0 : c ≡ c + 0 = omega arith in
    let k0 : k + 0 ≡ k = omega arith in
    ap₂ (λ x y. x ∷ y)
    (ap₂ (λ (x y : Bool). x || (is_in fired k && not y)) (ap (λ (i : ℕ). gained i es t) c0 ∙ (h 0).0 ∙ ap (is_in more) k0) (ap (λ (i : ℕ). lost i es t) c0 ∙ (h 0).1)
    ∙ ap (λ y. is_in more k || y) (and_true (is_in fired k)) ∙ or_comm (is_in more k) (is_in fired k) ∙ sym (is_in-append fired more k))
    (marks_after es t fired more (suc c) (suc k) events (λ j.
    let cj : suc c + j ≡ c + suc j = omega arith in
    let kj : k + suc j ≡ suc k + j = omega arith in
    (ap (λ (i : ℕ). gained i es t) cj ∙ (h (suc j)).0 ∙ ap (is_in more) kj, ap (λ (i : ℕ). lost i es t) cj ∙ (h (suc j)).1)))

-- ---- the step
module _ {C : Type 0} (P : Problem) (q : Fraction) (meant : C → Called) (c : CanBeStepped P q meant) (fired : List ℕ) (n : ℕ) (s : State) (z : StateFits P.atoms P.fluents s) where
  abbrev bs : List Bool
  bs = marks_from fired 0 P.events

  abbrev vs : List (Option Fraction)
  vs = clock_value (has_clock P) n

  same_events : firing_from (pad P fired n s) 0 P.events ≡ firing P s
  unfolding firing
  same_events = firing_same P.atoms P.fluents s bs vs z 0 P.events c.events

  alike : Alike P.atoms P.fluents (fires_from P.atoms P.events) (pad P fired n s) (effects_of P (firing P s)) s
  alike =
      let e = sym (effects_are P s) in
      record {
        fine_is = fires_fine P.atoms P.fluents s bs vs z P.atoms P.events c.events ∙ ap (λ es. fine es s) e;
        gained_is = λ a l. fires_gain P.atoms P.fluents s bs vs z a P.atoms P.events l (omega arith) c.events ∙ ap (λ es. gained a es s) e;
        lost_is = λ a l. fires_lose P.atoms P.fluents s bs vs z a P.atoms P.events c.events ∙ ap (λ es. lost a es s) e;
        wrote_is = λ f l. fires_write P.atoms P.fluents s bs vs z f P.atoms P.events c.events ∙ ap (λ es. wrote f es s) e;
      }

  marks : atoms_by P.atoms (fires_from P.atoms P.events) (pad P fired n s) bs ≡ marks_from (fired ++ firing P s) 0 P.events
  marks = marks_after (fires_from P.atoms P.events) (pad P fired n s) fired (firing P s) P.atoms 0 P.events (λ j. (
    marks_gained P.atoms P.fluents (pad P fired n s) P.atoms 0 j P.events (omega arith) c.events ∙ ap (λ xs. is_in xs (0 + j)) same_events,
    marks_kept P.atoms P.fluents (pad P fired n s) (P.atoms + j) P.atoms P.events (omega arith) c.events,
  ))

  clock : values_by P.fluents (fires_from P.atoms P.events) (pad P fired n s) vs ≡ Ok vs
  clock = clock_stays (fires_from P.atoms P.events) (pad P fired n s) P.fluents (has_clock P) n (clock_kept P.atoms P.fluents (pad P fired n s) P.fluents P.atoms P.events (omega arith) c.events)

  some_seen : holds (some_hold P.events) (pad P fired n s) ≡ not (is_empty (firing P s))
  some_seen = some_is (pad P fired n s) 0 P.events ∙ ap (λ xs. not (is_empty xs)) same_events

  fresh_seen : holds (fresh_from P.atoms P.events) (pad P fired n s) ≡ is_missing (first_shared (firing P s) fired)
  unfolding first_shared
  fresh_seen = fresh_is (pad P fired n s) fired P.atoms 0 P.events (mark_is P.atoms P.fluents s fired P.events vs z) ∙ ap (λ xs. is_missing (find (is_in fired) xs)) same_events

  not_empty : (xs : List ℕ) → not (is_empty xs) ≡ true → xs ≢ []
  not_empty [] h e = cc
  not_empty (x ∷ xs) h e = cc

  is_some : (xs : List ℕ) → xs ≢ [] → not (is_empty xs) ≡ true
  is_some [] h = absurd (h refl)
  is_some (x ∷ xs) h = refl

  pub fire_does : (t : State) → Does (fire_action P) (pad P fired n s) t → FireDoes P fired n s t
  fire_does t d =
      let b = both_true _ _ d.may in
      let r = joint_from P.atoms P.fluents (fires_from P.atoms P.events) (effects_of P (firing P s)) s _ _ _ _ z alike marks clock t d.effect in
      record {
        after = r.0;
        round = record {
          all = refl;
          some = not_empty (firing P s) (sym some_seen ∙ b.0);
          fresh = missing_is (first_shared (firing P s) fired) (sym fresh_seen ∙ b.1);
          effect = r.1;
        };
        is = r.2;
      }

  pub does_fire : (t : State) → FireDoes P fired n s t → Does (fire_action P) (pad P fired n s) t
  does_fire t d = record {
    may = ap₂ (λ x y. x && y) (some_seen ∙ is_some (firing P s) d.round.some) (fresh_seen ∙ ap is_missing d.round.fresh);
    effect = joint_on P.atoms P.fluents (fires_from P.atoms P.events) (effects_of P (firing P s)) s _ _ _ _ z alike marks clock d.after d.round.effect ∙ ap Ok (sym d.is);
  }
