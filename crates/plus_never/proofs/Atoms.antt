-- No step makes an atom true that nothing adds.
use Rattle.std.proofs.Common.{◌≡◌, ℕ, zero, suc, ◌+◌, true, false, Bool, List, [], ◌∷◌, ◌++◌, refl, ap, sym, subst, ◌∙◌, arith, ◌&&◌, ◌||◌, not, nat_eq, if◌then◌else◌}
use Rattle.std.specs.Prelude.{Option, Some, None, Result, Ok, Err, slice_get, unwrap_or}
use Rattle.plus_fraction.specs.Fraction.{Fraction, compared, neg_ℚ, ◌*ℚ◌, ◌/ℚ◌}
use Rattle.plus_model.specs.Terms.{Same, Write, Add, Delete, Assign, Increase, Decrease, ScaleUp, ScaleDown, Effect, Event, Timed, State, Problem}
use Rattle.plus_model.specs.Value.{passes, holds, value, fluent_of, atom_of, is_zero}
use Rattle.plus_model.specs.Joint.{Fault, NoValue, Change, Gains, Loses, Becomes, Moves, given, change_of, before, changes_of, gains, loses, new_atoms, new_values, with_atoms, changed, joint}
use Rattle.plus_model.specs.Firing.{effects_at, effects_of}
use Rattle.plus_model.specs.Running.{moved}
use Rattle.plus_model.specs.Trajectory.{literal_changes, literals}
use Rattle.plus_never.specs.Adds.{adds, some_adds, event_adds, literal_sets}

pub or_left : (a b : Bool) → (a || b) ≡ false → a ≡ false
or_left true b e = cc
or_left false b e = refl

pub or_right : (a b : Bool) → (a || b) ≡ false → b ≡ false
or_right true b e = cc
or_right false b e = e

or_both : (a b : Bool) → a ≡ false → b ≡ false → (a || b) ≡ false
or_both true b e f = cc
or_both false b e f = f

and_false : (b c : Bool) → b ≡ false → (b && c) ≡ false
and_false true c e = cc
and_false false c e = refl

-- ---- the atoms after changes
new_one : (bs : List Bool) (cs : List Change) (k a n : ℕ) → n ≡ k + a → gains n cs ≡ false → unwrap_or (slice_get bs a) false ≡ false → unwrap_or (slice_get (new_atoms k cs bs) a) false ≡ false
new_one [] cs k a n i g e = refl
new_one (b ∷ bs) cs k zero n i g e =
    or_both (gains k cs) (b && not (loses k cs)) (subst (λ m. gains m cs ≡ false) (let j : n ≡ k = omega arith in j) g) (and_false b (not (loses k cs)) e)
new_one (b ∷ bs) cs k (suc a) n i g e = new_one bs cs (suc k) a n (omega arith) g e

pub not_gained : (s t : State) (cs : List Change) (a : ℕ) → t.atoms ≡ new_atoms 0 cs s.atoms → gains a cs ≡ false → atom_of s a ≡ false → atom_of t a ≡ false
not_gained s t cs a i g e =
    subst (λ bs. unwrap_or (slice_get bs a) false ≡ false) (sym i) (new_one s.atoms cs 0 a a (omega arith) g e)

-- ---- the changes of effects
given_ok : {A : Type 0} (f : ℕ) (o : Option Fraction) (g : Fraction → Result A Fault) (c : A) → given f o g ≡ Ok c → (x : Fraction) × (g x ≡ Ok c)
given_ok f None g c e = absurd (let d : Err (NoValue f) ≡ Ok c = e in cc)
given_ok f (Some x) g c e = (x, e)

abbrev OkIs : {A : Type 0} → A → A → Type 0
OkIs {A} x y = Path (Result A Fault) (Ok x) (Ok y)

becomes_gains : (a f : ℕ) (x : Fraction) (c : Change) (cs : List Change) → OkIs (Becomes f x) c → gains a (c ∷ cs) ≡ gains a cs
becomes_gains a f x c cs e = subst (λ d. gains a (d ∷ cs) ≡ gains a cs) (let g : Becomes f x ≡ c = cc in g) refl

moves_gains : (a f : ℕ) (x : Fraction) (c : Change) (cs : List Change) → OkIs (Moves f x) c → gains a (c ∷ cs) ≡ gains a cs
moves_gains a f x c cs e = subst (λ d. gains a (d ∷ cs) ≡ gains a cs) (let g : Moves f x ≡ c = cc in g) refl

divided_gains : (a f : ℕ) (v x : Fraction) (b : Bool) (c : Change) (cs : List Change) → (if b then Err (NoValue f) else Ok (Becomes f (v /ℚ x))) ≡ Ok c → gains a (c ∷ cs) ≡ gains a cs
divided_gains a f v x true c cs e = absurd (let d : Err (NoValue f) ≡ Ok c = e in cc)
divided_gains a f v x false c cs e = becomes_gains a f (v /ℚ x) c cs e

one_gains : (a : ℕ) (w : Write) (s : State) (c : Change) (cs : List Change) → adds a w ≡ false → change_of w s ≡ Ok c → gains a cs ≡ false → gains a (c ∷ cs) ≡ false
one_gains a (Add b) s c cs n e g = subst (λ d. gains a (d ∷ cs) ≡ false) (let h : Gains b ≡ c = cc in h) (or_both (nat_eq a b) (gains a cs) n g)
one_gains a (Delete b) s c cs n e g = subst (λ d. gains a (d ∷ cs) ≡ false) (let h : Loses b ≡ c = cc in h) g
one_gains a (Assign f x) s c cs n e g =
    let p = given_ok f (value x s) (λ x. Ok (Becomes f x)) c e in becomes_gains a f p.0 c cs p.1 ∙ g
one_gains a (Increase f x) s c cs n e g =
    let p = given_ok f (value x s) (λ x. given f (fluent_of s f) (λ v. Ok (Moves f x))) c e in
    let q = given_ok f (fluent_of s f) (λ v. Ok (Moves f p.0)) c p.1 in moves_gains a f p.0 c cs q.1 ∙ g
one_gains a (Decrease f x) s c cs n e g =
    let p = given_ok f (value x s) (λ x. given f (fluent_of s f) (λ v. Ok (Moves f (neg_ℚ x)))) c e in
    let q = given_ok f (fluent_of s f) (λ v. Ok (Moves f (neg_ℚ p.0))) c p.1 in moves_gains a f (neg_ℚ p.0) c cs q.1 ∙ g
one_gains a (ScaleUp f x) s c cs n e g =
    let p = given_ok f (value x s) (λ x. given f (fluent_of s f) (λ v. Ok (Becomes f (v *ℚ x)))) c e in
    let q = given_ok f (fluent_of s f) (λ v. Ok (Becomes f (v *ℚ p.0))) c p.1 in becomes_gains a f (q.0 *ℚ p.0) c cs q.1 ∙ g
one_gains a (ScaleDown f x) s c cs n e g =
    let p = given_ok f (value x s) (λ x. given f (fluent_of s f) (λ v. if is_zero x then Err (NoValue f) else Ok (Becomes f (v /ℚ x)))) c e in
    let q = given_ok f (fluent_of s f) (λ v. if is_zero p.0 then Err (NoValue f) else Ok (Becomes f (v /ℚ p.0))) c p.1 in
    divided_gains a f q.0 p.0 (is_zero p.0) c cs q.1 ∙ g

ok_same : (xs ys : List Change) → OkIs ys xs → xs ≡ ys
ok_same xs ys e = cc

before_ok : (r : Result Change Fault) (rs : Result (List Change) Fault) (cs : List Change) → before r rs ≡ Ok cs → (c : Change) × (ds : List Change) × (r ≡ Ok c) × (rs ≡ Ok ds) × (cs ≡ c ∷ ds)
before_ok (Err x) rs cs e = absurd (let d : Err x ≡ Ok cs = e in cc)
before_ok (Ok c) (Err x) cs e = absurd (let d : Err x ≡ Ok cs = e in cc)
before_ok (Ok c) (Ok ds) cs e = (c, ds, refl, refl, ok_same cs (c ∷ ds) e)

all_gains : (a : ℕ) (es : List Effect) (s : State) (cs : List Change) → some_adds a es ≡ false → changes_of es s ≡ Ok cs → gains a cs ≡ false
all_gains a [] s cs n e = subst (λ ds. gains a ds ≡ false) (let d : [] ≡ cs = cc in d) refl
all_gains a (x ∷ xs) s cs n e = go (λ ds f. all_gains a xs s ds (or_right (adds a x.write) (some_adds a xs) n) f) (holds x.guard s) e
  where
    go : ((ds : List Change) → changes_of xs s ≡ Ok ds → gains a ds ≡ false) → (b : Bool) → (if b then before (change_of x.write s) (changes_of xs s) else changes_of xs s) ≡ Ok cs → gains a cs ≡ false
    go rest true e =
        let p = before_ok (change_of x.write s) (changes_of xs s) cs e in
        subst (λ ds. gains a ds ≡ false) (sym p.4)
        (one_gains a x.write s p.0 p.1 (or_left (adds a x.write) (some_adds a xs) n) p.2 (rest p.1 p.3))
    go rest false e = rest cs e

pub joint_adds : (a : ℕ) (es : List Effect) (s t : State) → some_adds a es ≡ false → joint es s ≡ Ok t → atom_of s a ≡ false → atom_of t a ≡ false
unfolding joint
joint_adds a es s t n e f = go (changes_of es s) refl e
  where
    with_ok : (bs : List Bool) (r : Result (List (Option Fraction)) Fault) (t : State) → with_atoms bs r ≡ Ok t → t.atoms ≡ bs
    with_ok bs (Err x) t e = absurd (let d : Err x ≡ Ok t = e in cc)
    with_ok bs (Ok vs) t e = (let d : record { atoms = bs; fluents = vs } ≡ t = cc in ap (λ (x : State). x.atoms) (sym d))

    go : (r : Result (List Change) Fault) → changes_of es s ≡ r → changed r s ≡ Ok t → atom_of t a ≡ false
    go (Err x) i e = absurd (let d : Err x ≡ Ok t = e in cc)
    go (Ok cs) i e = not_gained s t cs a (with_ok (new_atoms 0 cs s.atoms) (new_values 0 cs s.fluents) t e) (all_gains a es s cs n i) f

-- ---- the effects of a round
some_append : (a : ℕ) (xs ys : List Effect) → some_adds a xs ≡ false → some_adds a ys ≡ false → some_adds a (xs ++ ys) ≡ false
some_append a [] ys e f = f
some_append a (x ∷ xs) ys e f = or_both (adds a x.write) (some_adds a (xs ++ ys)) (or_left _ _ e) (some_append a xs ys (or_right (adds a x.write) (some_adds a xs) e) f)

one_event : (a : ℕ) (es : List Event) (k : ℕ) → event_adds a es ≡ false → some_adds a (effects_at (slice_get es k)) ≡ false
one_event a [] k e = refl
one_event a (x ∷ xs) zero e = or_left (some_adds a x.effects) (event_adds a xs) e
one_event a (x ∷ xs) (suc k) e = one_event a xs k (or_right (some_adds a x.effects) (event_adds a xs) e)

pub round_adds : (a : ℕ) (P : Problem) (ks : List ℕ) → event_adds a P.events ≡ false → some_adds a (effects_of P ks) ≡ false
unfolding effects_of
round_adds a P [] e = refl
round_adds a P (k ∷ ks) e = some_append a (effects_at (slice_get P.events k)) (effects_of P ks) (one_event a P.events k e) (round_adds a P ks e)

-- ---- timed literals, and time that passes
literal_gains : (a : ℕ) (t : Fraction) (ls : List Timed) → literal_sets a ls ≡ false → gains a (literal_changes t ls) ≡ false
literal_gains a t [] e = refl
literal_gains a t (l ∷ ls) e =
    go (passes Same (compared l.time t)) l.positive (or_left (l.positive && nat_eq a l.atom) (literal_sets a ls) e)
    (literal_gains a t ls (or_right (l.positive && nat_eq a l.atom) (literal_sets a ls) e))
  where
    go : (b p : Bool) → (p && nat_eq a l.atom) ≡ false → gains a (literal_changes t ls) ≡ false → gains a (if b then (if p then Gains l.atom else Loses l.atom) ∷ literal_changes t ls else literal_changes t ls) ≡ false
    go true true n g = or_both (nat_eq a l.atom) (gains a (literal_changes t ls)) n g
    go true false n g = g
    go false p n g = g

pub literals_add : (a : ℕ) (P : Problem) (t : Fraction) (s : State) → literal_sets a P.timed ≡ false → atom_of s a ≡ false → atom_of (literals P t s) a ≡ false
unfolding literals
literals_add a P t s n f = not_gained s (literals P t s) (literal_changes t P.timed) a refl (literal_gains a t P.timed n) f

pub moved_atom : (a : ℕ) (s : State) (rs : List Fraction) (x : Fraction) → atom_of s a ≡ false → atom_of (moved s rs x) a ≡ false
unfolding moved
moved_atom a s rs x f = f
