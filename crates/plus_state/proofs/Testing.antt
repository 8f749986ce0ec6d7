-- Lists of tests in parts, carried from layer to layer, and the one test that is the first that fails.
use Rattle.std.proofs.Common.{◌≡◌, ◌⊎◌, Bool, true, false, List, [], ◌∷◌, ◌++◌, map, refl, ap, sym, ◌∙◌, inl, inr}
use Rattle.std.specs.Prelude.{if◌then◌else◌}
use Rattle.plus_state.specs.Tested.{AllPass, FirstFailing, Carries, OneTest}

pub pass_none : {T : Type 0} (passes : T → Type 0) → AllPass passes []
unfolding AllPass
pass_none passes = tt

pub none_fails : {T : Type 0} (passes : T → Type 0) (m : T) → FirstFailing passes [] m → ⊥
unfolding FirstFailing
none_fails passes m h = h

-- ---- one test
pub pass_one : {T : Type 0} (passes : T → Type 0) (t : T) → passes t → AllPass passes (t ∷ [])
unfolding AllPass
pass_one passes t h = (h, tt)

pub fail_one : {T : Type 0} (passes : T → Type 0) (t m : T) → (passes t → ⊥) → m ≡ t → FirstFailing passes (t ∷ []) m
unfolding FirstFailing
fail_one passes t m h e = inl (h, e)

pub fail_here : {T : Type 0} (passes : T → Type 0) (t : T) (ts : List T) → (passes t → ⊥) → FirstFailing passes (t ∷ ts) t
unfolding FirstFailing
fail_here passes t ts h = inl (h, refl)

pub fails_here : {T : Type 0} (passes : T → Type 0) (t m : T) (ts : List T) → (passes t → ⊥) → FirstFailing passes (t ∷ ts) m → m ≡ t
unfolding FirstFailing
fails_here passes t m ts n h = elim h [ inl a ↦ a.1 | inr r ↦ absurd (n r.0) ]

-- ---- two parts
pub pass_append : {T : Type 0} (passes : T → Type 0) (xs ys : List T) → AllPass passes xs → AllPass passes ys → AllPass passes (xs ++ ys)
unfolding AllPass
pass_append passes [] ys a b = b
pass_append passes (x ∷ xs) ys a b = (a.0, pass_append passes xs ys a.1 b)

pub pass_left : {T : Type 0} (passes : T → Type 0) (xs ys : List T) → AllPass passes (xs ++ ys) → AllPass passes xs
unfolding AllPass
pass_left passes [] ys h = tt
pass_left passes (x ∷ xs) ys h = (h.0, pass_left passes xs ys h.1)

pub pass_right : {T : Type 0} (passes : T → Type 0) (xs ys : List T) → AllPass passes (xs ++ ys) → AllPass passes ys
unfolding AllPass
pass_right passes [] ys h = h
pass_right passes (x ∷ xs) ys h = pass_right passes xs ys h.1

pub fail_left : {T : Type 0} (passes : T → Type 0) (xs ys : List T) (m : T) → FirstFailing passes xs m → FirstFailing passes (xs ++ ys) m
unfolding FirstFailing
fail_left passes [] ys m h = elim h [ ]
fail_left passes (x ∷ xs) ys m h = elim h [ inl n ↦ inl n | inr r ↦ inr (r.0, fail_left passes xs ys m r.1) ]

pub fail_right : {T : Type 0} (passes : T → Type 0) (xs ys : List T) (m : T) → AllPass passes xs → FirstFailing passes ys m → FirstFailing passes (xs ++ ys) m
unfolding FirstFailing AllPass
fail_right passes [] ys m a h = h
fail_right passes (x ∷ xs) ys m a h = inr (a.0, fail_right passes xs ys m a.1 h)

pub fail_split : {T : Type 0} (passes : T → Type 0) (xs ys : List T) (m : T) → FirstFailing passes (xs ++ ys) m → FirstFailing passes xs m ⊎ (AllPass passes xs × FirstFailing passes ys m)
unfolding FirstFailing AllPass
fail_split passes [] ys m h = inr (tt, h)
fail_split passes (x ∷ xs) ys m h =
    elim h [ inl a ↦ inl (inl a) | inr r ↦ elim (fail_split passes xs ys m r.1) [ inl p ↦ inl (inr (r.0, p)) | inr q ↦ inr ((r.0, q.0), q.1) ] ]

-- ---- a test that is listed only where something is so
pub chosen_pass : {T : Type 0} (passes : T → Type 0) (t : T) (b : Bool) → (passes t → ⊥) → AllPass passes (if b then t ∷ [] else []) → b ≡ false
unfolding AllPass
chosen_pass passes t true n h = absurd (n h.0)
chosen_pass passes t false n h = refl

pub chosen_fail : {T : Type 0} (passes : T → Type 0) (t m : T) (b : Bool) → FirstFailing passes (if b then t ∷ [] else []) m → (b ≡ true) × (m ≡ t)
unfolding FirstFailing
chosen_fail passes t m true h = elim h [ inl a ↦ (refl, a.1) | inr r ↦ absurd r.1 ]
chosen_fail passes t m false h = absurd h

-- ---- from layer to layer
pub carry_pass : {T U : Type 0} {f : T → U} {passes : T → Type 0} {passes' : U → Type 0} → Carries f passes passes' → (ts : List T) → AllPass passes ts → AllPass passes' (map f ts)
unfolding AllPass
carry_pass c [] h = tt
carry_pass c (t ∷ ts) h = (c.there t h.0, carry_pass c ts h.1)

pub carry_back : {T U : Type 0} {f : T → U} {passes : T → Type 0} {passes' : U → Type 0} → Carries f passes passes' → (ts : List T) → AllPass passes' (map f ts) → AllPass passes ts
unfolding AllPass
carry_back c [] h = tt
carry_back c (t ∷ ts) h = (c.back t h.0, carry_back c ts h.1)

pub carry_fail : {T U : Type 0} {f : T → U} {passes : T → Type 0} {passes' : U → Type 0} → Carries f passes passes' → (ts : List T) (m : T) → FirstFailing passes ts m → FirstFailing passes' (map f ts) (f m)
unfolding FirstFailing
carry_fail c [] m h = elim h [ ]
carry_fail {f = f} c (t ∷ ts) m h = elim h [ inl n ↦ inl (λ k. n.0 (c.back t k), ap f n.1) | inr r ↦ inr (c.there t r.0, carry_fail c ts m r.1) ]

-- the first that fails above is that of a first that fails below
pub carry_from : {T U : Type 0} {f : T → U} {passes : T → Type 0} {passes' : U → Type 0} → Carries f passes passes' → (ts : List T) (m : U) → FirstFailing passes' (map f ts) m → (k : T) × (FirstFailing passes ts k × (m ≡ f k))
unfolding FirstFailing
carry_from c [] m h = elim h [ ]
carry_from {f = f} c (t ∷ ts) m h = elim h [
  | inl n ↦ (t, (inl (λ k. n.0 (c.there t k), refl), n.1))
  | inr r ↦ (let q = carry_from c ts m r.1 in (q.0, (inr (c.back t r.0, q.1.0), q.1.1)))
]

-- ---- one test
one_first : {T : Type 0} (passes : T → Type 0) (ts : List T) (m k : T) → FirstFailing passes ts m → FirstFailing passes ts k → m ≡ k
unfolding FirstFailing
one_first passes [] m k h j = elim h [ ]
one_first passes (t ∷ ts) m k h j = elim h [
  | inl n ↦ elim j [ inl p ↦ n.1 ∙ sym p.1 | inr r ↦ absurd (n.0 r.0) ]
  | inr q ↦ elim j [ inl p ↦ absurd (p.0 q.0) | inr r ↦ one_first passes ts m k q.1 r.1 ]
]

none_first : {T : Type 0} (passes : T → Type 0) (ts : List T) (m : T) → AllPass passes ts → FirstFailing passes ts m → ⊥
unfolding AllPass FirstFailing
none_first passes [] m a h = h
none_first passes (t ∷ ts) m a h = elim h [ inl n ↦ n.0 a.0 | inr r ↦ none_first passes ts m a.1 r.1 ]

pub one_test : {T : Type 0} (passes : T → Type 0) → OneTest passes
one_test passes = record { one = one_first passes; none = none_first passes }
