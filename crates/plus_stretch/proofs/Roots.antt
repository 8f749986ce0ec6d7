-- The roots of a problem are those in its list.
use Rattle.std.proofs.Common.{◌≡◌, ◌⊎◌, ℕ, zero, suc, Bool, true, false, List, [], ◌∷◌, ◌++◌, refl, sym, subst, inl, inr, pos, if◌then◌else◌}
use Rattle.std.specs.Prelude.{Option, Some, None, slice_get}
use Rattle.plus_fraction.specs.Fraction.{Fraction, whole, ◌-ℚ◌, ◌/ℚ◌, ◌<ℚ◌}
use Rattle.plus_model.specs.Terms.{Condition, Always, Never, Both, Either, Atom, Compare, Event, Process, State, Problem}
use Rattle.plus_model.specs.Piece.{Piece, Missing, Crooked, Straight, piece}
use Rattle.plus_state.specs.Tests.{decided}
use Rattle.plus_crossing.specs.Roots.{IsRoot, meets_later}
use Rattle.plus_crossing.specs.Next.{RootSides, RootOpen, LiveRoot, Nowhere}
use Rattle.plus_crossing.proofs.Meeting.{root_is, later_is, one_root}
use Rattle.plus_crossing.specs.Listed.{roots_on, open_roots, live_roots}
use Rattle.plus_stretch.specs.Crossings.{roots_in, all_roots, Among}
use Rattle.plus_stretch.specs.Laws.{RootsAre}

pub among_left : (x : Fraction) (xs ys : List Fraction) → Among x xs → Among x (xs ++ ys)
among_left x [] ys h = elim h [ ]
among_left x (y ∷ xs) ys h = elim h [ inl e ↦ inl e | inr i ↦ inr (among_left x xs ys i) ]

pub among_right : (x : Fraction) (xs ys : List Fraction) → Among x ys → Among x (xs ++ ys)
among_right x [] ys h = h
among_right x (y ∷ xs) ys h = inr (among_right x xs ys h)

pub among_either : (x : Fraction) (xs ys : List Fraction) → Among x (xs ++ ys) → Among x xs ⊎ Among x ys
among_either x [] ys h = inr h
among_either x (y ∷ xs) ys h = elim h [ inl e ↦ inl (inl e) | inr i ↦ elim (among_either x xs ys i) [ inl l ↦ inl (inr l) | inr r ↦ inr r ] ]

lines_listed : (v m w n x : Fraction) → IsRoot v m w n x → Among x (roots_on (Straight v m) (Straight w n))
lines_listed v m w n x h =
    let l = later_is v m w n x h in
    subst (λ (b : Bool). Among x (if b then ((w -ℚ v) /ℚ (m -ℚ n)) ∷ [] else [])) (sym l) (inl (one_root v m w n x ((w -ℚ v) /ℚ (m -ℚ n)) h (root_is v m w n l)))

sides_listed : (p q : Piece) (x : Fraction) → RootSides p q x → Among x (roots_on p q)
unfolding RootSides
sides_listed Missing q x h = elim h [ ]
sides_listed Crooked q x h = elim h [ ]
sides_listed (Straight v m) Missing x h = elim h [ ]
sides_listed (Straight v m) Crooked x h = elim h [ ]
sides_listed (Straight v m) (Straight w n) x h = lines_listed v m w n x h

open_listed : (o : Option Bool) (P Q : Fraction → Type 0) (x : Fraction) (xs ys : List Fraction) → (P x → Among x xs) → (Q x → Among x ys) → RootOpen o P Q x → Among x (open_roots o xs ys)
unfolding RootOpen
open_listed (Some b) P Q x xs ys f g h = elim h [ ]
open_listed None P Q x xs ys f g h = elim h [ inl p ↦ among_left x xs ys (f p) | inr q ↦ among_right x xs ys (g q) ]

nowhere : (x : Fraction) (xs : List Fraction) → Nowhere x → Among x xs
unfolding Nowhere
nowhere x xs h = elim h [ ]

pub listed : (c : Condition) (s : State) (rs : List Fraction) (x : Fraction) → LiveRoot c s rs x → Among x (live_roots c s rs)
listed Always s rs x h = nowhere x [] h
listed Never s rs x h = nowhere x [] h
listed (Both c d) s rs x h = open_listed (decided (Both c d) s) (LiveRoot c s rs) (LiveRoot d s rs) x _ _ (listed c s rs x) (listed d s rs x) h
listed (Either c d) s rs x h = open_listed (decided (Either c d) s) (LiveRoot c s rs) (LiveRoot d s rs) x _ _ (listed c s rs x) (listed d s rs x) h
listed (Atom a positive) s rs x h = nowhere x [] h
listed (Compare t l r positive) s rs x h = sides_listed (piece l s rs) (piece r s rs) x h

-- of a member of a list
in_list : {A : Type 0} (condition : A → Condition) (xs : List A) (k : ℕ) (a : A) (s : State) (rs : List Fraction) (x : Fraction) → slice_get xs k ≡ Some a → Among x (live_roots (condition a) s rs) → Among x (roots_in condition xs s rs)
in_list condition [] k a s rs x g h = cc
in_list condition (d ∷ xs) zero a s rs x g h = among_left x _ _ (subst (λ c. Among x (live_roots (condition c) s rs)) (let q : a ≡ d = cc in q) h)
in_list condition (d ∷ xs) (suc k) a s rs x g h = among_right x _ _ (in_list condition xs k a s rs x g h)

pub event_listed : (P : Problem) (s : State) (rs : List Fraction) (k : ℕ) (e : Event) (x : Fraction) → slice_get P.events k ≡ Some e → LiveRoot e.condition s rs x → Among x (all_roots P s rs)
unfolding all_roots
event_listed P s rs k e x g h = among_left x _ _ (in_list (λ (e : Event). e.condition) P.events k e s rs x g (listed e.condition s rs x h))

pub process_listed : (P : Problem) (s : State) (rs : List Fraction) (k : ℕ) (p : Process) (x : Fraction) → slice_get P.processes k ≡ Some p → LiveRoot p.condition s rs x → Among x (all_roots P s rs)
unfolding all_roots
process_listed P s rs k p x g h = among_right x _ _ (in_list (λ (p : Process). p.condition) P.processes k p s rs x g (listed p.condition s rs x h))

-- above 0
lines_above : (v m w n x : Fraction) (b : Bool) → meets_later v m w n ≡ b → Among x (if b then ((w -ℚ v) /ℚ (m -ℚ n)) ∷ [] else []) → whole (pos 0) <ℚ x
lines_above v m w n x true l h = elim h [ inl e ↦ subst (λ (y : Fraction). whole (pos 0) <ℚ y) (sym e) (root_is v m w n l).above | inr i ↦ absurd i ]
lines_above v m w n x false l h = elim h [ ]

sides_above : (p q : Piece) (x : Fraction) → Among x (roots_on p q) → whole (pos 0) <ℚ x
sides_above Missing q x h = elim h [ ]
sides_above Crooked q x h = elim h [ ]
sides_above (Straight v m) Missing x h = elim h [ ]
sides_above (Straight v m) Crooked x h = elim h [ ]
sides_above (Straight v m) (Straight w n) x h = lines_above v m w n x (meets_later v m w n) refl h

open_above : (o : Option Bool) (x : Fraction) (xs ys : List Fraction) → (Among x xs → whole (pos 0) <ℚ x) → (Among x ys → whole (pos 0) <ℚ x) → Among x (open_roots o xs ys) → whole (pos 0) <ℚ x
open_above (Some b) x xs ys f g h = elim h [ ]
open_above None x xs ys f g h = elim (among_either x xs ys h) [ inl l ↦ f l | inr r ↦ g r ]

pub live_above : (c : Condition) (s : State) (rs : List Fraction) (x : Fraction) → Among x (live_roots c s rs) → whole (pos 0) <ℚ x
live_above Always s rs x h = elim h [ ]
live_above Never s rs x h = elim h [ ]
live_above (Both c d) s rs x h = open_above (decided (Both c d) s) x _ _ (live_above c s rs x) (live_above d s rs x) h
live_above (Either c d) s rs x h = open_above (decided (Either c d) s) x _ _ (live_above c s rs x) (live_above d s rs x) h
live_above (Atom a positive) s rs x h = elim h [ ]
live_above (Compare t l r positive) s rs x h = sides_above (piece l s rs) (piece r s rs) x h

list_above : {A : Type 0} (condition : A → Condition) (xs : List A) (s : State) (rs : List Fraction) (x : Fraction) → Among x (roots_in condition xs s rs) → whole (pos 0) <ℚ x
list_above condition [] s rs x h = elim h [ ]
list_above condition (a ∷ xs) s rs x h = elim (among_either x _ _ h) [ inl l ↦ live_above (condition a) s rs x l | inr r ↦ list_above condition xs s rs x r ]

all_above : (P : Problem) (s : State) (rs : List Fraction) (x : Fraction) → Among x (all_roots P s rs) → whole (pos 0) <ℚ x
unfolding all_roots
all_above P s rs x h = elim (among_either x _ _ h) [ inl l ↦ list_above (λ (e : Event). e.condition) P.events s rs x l | inr r ↦ list_above (λ (p : Process). p.condition) P.processes s rs x r ]

pub roots_are : RootsAre
roots_are = record { listed = listed; above = all_above }
