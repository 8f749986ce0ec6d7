-- Lines of what changes: a number that is not listed has no line.
use Rattle.std.proofs.Common.{◌≡◌, ◌≢◌, ℕ, zero, suc, ◌+◌, ◌<◌, ◌≤◌, ◌⊎◌, inl, inr, List, [], ◌∷◌, ◌++◌, length, map, get_or, set, refl, sym, ap, subst, ◌∙◌, arith, append_assoc, append-nil}
use Rattle.std.specs.Prelude.{slice_get, unwrap_or}
use Rattle.std.specs.List.{flat_map}
use Rattle.std.proofs.lemmas.List.{length-set, get_or-set_same, get_or-set_other}
use Rattle.std.proofs.lemmas.Option.{unwrap_or-slice_get}
use Rattle.plus_report.specs.Text.{lines_below}
use Rattle.plus_state.specs.Changes.{patched_list, AreIn, Over, Rises}

-- the lines of numbers from a on, so many
lines_from : (ℕ → List ℕ) → ℕ → ℕ → List ℕ
lines_from line a zero = []
lines_from line a (suc k) = line a ++ lines_from line (suc a) k

lines_below-from : (line : ℕ → List ℕ) (k a n : ℕ) → n ≡ a + k
    → lines_below line n ≡ lines_below line a ++ lines_from line a k
unfolding lines_below lines_from
lines_below-from line zero a n e =
    let d : n ≡ a = omega arith in ap (lines_below line) d ∙ sym (append-nil _)
lines_below-from line (suc k) a n e =
    let d : n ≡ suc a + k = omega arith in
    lines_below-from line k (suc a) n d ∙ append_assoc (lines_below line a) (line a) (lines_from line (suc a) k)

-- no change is of number j
Unlisted : {A : Type 0} → ℕ → List (ℕ × A) → Type 0
Unlisted j [] = Unit {0}
Unlisted j (c ∷ cs) = (j ≢ c.0) × Unlisted j cs

-- the first change is of number a or a later one
Starts : {A : Type 0} → ℕ → List (ℕ × A) → Type 0
Starts a [] = Unit {0}
Starts a (c ∷ cs) = a ≤ c.0

-- a number has this line where it is listed
Own : {A : Type 0} → (ℕ → List ℕ) → (ℕ × A → List ℕ) → List (ℕ × A) → Type 0
Own line own [] = Unit {0}
Own line own (c ∷ cs) = (line c.0 ≡ own c) × Own line own cs

over-unlisted : {A : Type 0} (j k : ℕ) (cs : List (ℕ × A)) → j ≤ k → Over k cs → Unlisted j cs
unfolding Unlisted
over-unlisted j k [] h o = tt
over-unlisted j k (c ∷ cs) h o = (omega (arith, o.0), over-unlisted j k cs h o.1)

over-starts : {A : Type 0} (k : ℕ) (cs : List (ℕ × A)) → Over k cs → Starts (suc k) cs
unfolding Starts
over-starts k [] o = tt
over-starts k (c ∷ cs) o = omega (arith, o.0)

le-cases : (a b : ℕ) → a ≤ b → (b ≡ a) ⊎ (suc a ≤ b)
le-cases zero zero h = inl refl
le-cases zero (suc b) h = inr (omega arith)
le-cases (suc a) zero h = absurd (omega arith)
le-cases (suc a) (suc b) h =
    elim (le-cases a b (omega arith)) [ inl e ↦ inl (ap suc e) | inr l ↦ inr (omega arith) ]

module _ {A : Type 0} (line : ℕ → List ℕ) (own : ℕ × A → List ℕ) where
  spread : (k a n : ℕ) (cs : List (ℕ × A)) → n ≡ a + k → Starts a cs → Rises cs → AreIn n cs
      → Own line own cs → ((j : ℕ) → a ≤ j → Unlisted j cs → line j ≡ [])
      → lines_from line a k ≡ flat_map own cs
  unfolding lines_from Unlisted Starts Own
  spread zero a n [] e s r i o q = refl
  spread zero a n (c ∷ cs) e s r i o q = absurd (omega (arith, e, s, i.0))
  spread (suc k) a n [] e s r i o q =
      let d : n ≡ suc a + k = omega arith in
      ap (λ t. t ++ lines_from line (suc a) k) (q a (omega arith) tt)
      ∙ spread k (suc a) n [] d tt tt tt tt (λ j h u. q j (omega arith) u)
  spread (suc k) a n (c ∷ cs) e s r i o q =
      let d : n ≡ suc a + k = omega arith in
      elim (le-cases a c.0 s) [
        | inl g ↦
            ap (λ t. t ++ lines_from line (suc a) k) (ap line (sym g) ∙ o.0)
            ∙ ap (λ t. own c ++ t) (spread k (suc a) n cs d (subst (λ b. Starts (suc b) cs) g (over-starts c.0 cs r.0)) r.1 i.1 o.1
            (λ j h u. let ne : j ≢ c.0 = omega arith in q j (omega arith) (ne, u)))
        | inr l ↦
            ap (λ t. t ++ lines_from line (suc a) k)
            (q a (omega arith) ((let ne : a ≢ c.0 = omega arith in ne), over-unlisted a c.0 cs (omega arith) r.0))
            ∙ spread k (suc a) n (c ∷ cs) d l r i o (λ j h u. q j (omega arith) u)
      ]

-- the member with this number
at : {A : Type 0} → A → List A → ℕ → A
at d xs k = unwrap_or (slice_get xs k) d

at-set_same : {A : Type 0} (d : A) (xs : List A) (k : ℕ) (x : A) → k < length xs → at d (set xs k x) k ≡ x
unfolding at
at-set_same d xs k x h = unwrap_or-slice_get (set xs k x) k d ∙ get_or-set_same xs k x d h

at-set_other : {A : Type 0} (d : A) (xs : List A) (k j : ℕ) (x : A) → j ≢ k → at d (set xs k x) j ≡ at d xs j
unfolding at
at-set_other d xs k j x h = unwrap_or-slice_get (set xs k x) j d ∙ get_or-set_other xs k j x d h ∙ sym (unwrap_or-slice_get xs j d)

-- a member that is not listed stays
patched_list-unlisted : {A : Type 0} (d : A) (cs : List (ℕ × A)) (xs : List A) (j : ℕ) → Unlisted j cs
    → at d (patched_list cs xs) j ≡ at d xs j
unfolding Unlisted
patched_list-unlisted d [] xs j u = refl
patched_list-unlisted d (c ∷ cs) xs j u = patched_list-unlisted d cs (set xs c.0 c.1) j u.1 ∙ at-set_other d xs c.0 j c.1 u.0

-- each listed one has its value
Has : {A : Type 0} → A → List A → List (ℕ × A) → Type 0
Has d ys [] = Unit {0}
Has d ys (c ∷ cs) = (at d ys c.0 ≡ c.1) × Has d ys cs

sized : {A : Type 0} (n m : ℕ) (cs : List (ℕ × A)) → m ≡ n → AreIn n cs → AreIn m cs
sized n m cs e i = subst (λ k. AreIn k cs) (sym e) i

patched_list-listed : {A : Type 0} (d : A) (cs : List (ℕ × A)) (xs : List A) → Rises cs → AreIn (length xs) cs
    → Has d (patched_list cs xs) cs
unfolding Has
patched_list-listed d [] xs r i = tt
patched_list-listed d (c ∷ cs) xs r i = (
  patched_list-unlisted d cs (set xs c.0 c.1) c.0 (over-unlisted c.0 c.0 cs (omega arith) r.0) ∙ at-set_same d xs c.0 c.1 i.0,
  patched_list-listed d cs (set xs c.0 c.1) r.1 (sized _ _ cs (length-set xs c.0 c.1) i.1),
)

module _ {A : Type 0} (d : A) (f : ℕ → A → A → List ℕ) (same : (k : ℕ) (x : A) → f k x x ≡ []) where
  owned : (xs ys : List A) (cs : List (ℕ × A)) → Has d ys cs
      → Own (λ k. f k (at d xs k) (at d ys k)) (λ c. f c.0 (at d xs c.0) c.1) cs
  unfolding Has Own
  owned xs ys [] h = tt
  owned xs ys (c ∷ cs) h = (ap (f c.0 (at d xs c.0)) h.0, owned xs ys cs h.1)

  -- the lines of all members, of what was and is, are those of the listed ones
  pub lines_below-changed : (xs : List A) (cs : List (ℕ × A)) → Rises cs → AreIn (length xs) cs
      → lines_below (λ k. f k (unwrap_or (slice_get xs k) d) (unwrap_or (slice_get (patched_list cs xs) k) d)) (length xs)
      ≡ flat_map (λ c. f c.0 (unwrap_or (slice_get xs c.0) d) c.1) cs
  unfolding at lines_below Starts
  lines_below-changed xs cs r i =
      lines_below-from _ (length xs) 0 (length xs) (omega arith)
      ∙ spread _ _ (length xs) 0 (length xs) cs (omega arith) (starts cs) r i (owned xs (patched_list cs xs) cs (patched_list-listed d cs xs r i))
      (λ j h u. ap (f j (at d xs j)) (patched_list-unlisted d cs xs j u) ∙ same j (at d xs j))
    where
      starts : (cs : List (ℕ × A)) → Starts 0 cs
      starts [] = tt
      starts (c ∷ cs) = omega arith

-- a listed number is in its bounds
pub listed_in : {X A : Type 0} (f : X → ℕ × A) (m n : ℕ) (xs : List X) (i : ℕ) (x : X) → m ≡ n → AreIn m (map f xs)
    → i < length xs → x ≡ get_or xs i x → (f x).0 < n
listed_in f m n [] i x d a h e = absurd (omega arith)
listed_in f m n (y ∷ ys) zero x d a h e = subst (λ k. (f x).0 < k) d (subst (λ z. (f z).0 < m) (sym e) a.0)
listed_in f m n (y ∷ ys) (suc i) x d a h e = listed_in f m n ys i x d a.1 (omega arith) e
