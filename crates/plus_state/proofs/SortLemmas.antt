-- A stable sort keeps the writes on each number in order.
use Rattle.std.proofs.Common.{◌≡◌, ℕ, suc, ◌<◌, ◌≤◌, Bool, true, false, not, cond, ◌&&◌, List, [], ◌∷◌, length, map, get_or, refl, ap, sym, subst, ◌∙◌, arith}
use mathlib.Core.Bool.{true≢false}
use Rattle.std.proofs.lemmas.List.{nil_from_length}
use Rattle.std.proofs.lemmas.List.Sorted.{IsNonDecreasingBy-from_sort}
use Rattle.std.proofs.lemmas.Bool.{eqb-true, eqb-false}
use Rattle.std.proofs.lemmas.Bool.Decides.{nat_tests}
use Rattle.std.specs.Prelude.{nat_eq, if◌then◌else◌, filter}
use Rattle.std.specs.Ordering.{nat_cmp, is_lt}
use Rattle.std.specs.List.Sorted.{ties, IsNonDecreasingBy, IsSortedByKey, IsStableByKey}
use Rattle.plus_state.specs.Changes.{AreIn, Over}
use Rattle.plus_state.specs.Writes.{on, From, Ordered, Sorts}

on_by : {A : Type 0} (P : List A → Type 0) (k : ℕ) (p : ℕ × A) (ps : List (ℕ × A)) (b : Bool) → nat_eq k p.0 ≡ b → (k ≡ p.0 → P (p.1 ∷ on k ps)) → ((k ≡ p.0 → ⊥) → P (on k ps)) → P (if b then p.1 ∷ on k ps else on k ps)
on_by P k p ps true e h g = h (eqb-true k p.0 e)
on_by P k p ps false e h g = g (eqb-false k p.0 e)

-- the first write is one on k, or not
pub on_cases : {A : Type 0} (P : List A → Type 0) (k : ℕ) (p : ℕ × A) (ps : List (ℕ × A)) → (k ≡ p.0 → P (p.1 ∷ on k ps)) → ((k ≡ p.0 → ⊥) → P (on k ps)) → P (on k (p ∷ ps))
on_cases P k p ps h g = on_by P k p ps (nat_eq k p.0) refl h g

pub on_here : {A : Type 0} (k : ℕ) (p : ℕ × A) (ps : List (ℕ × A)) → k ≡ p.0 → on k (p ∷ ps) ≡ p.1 ∷ on k ps
on_here k p ps e = on_cases (λ xs. xs ≡ p.1 ∷ on k ps) k p ps (λ _. refl) (λ n. absurd (n e))

pub on_other : {A : Type 0} (k : ℕ) (p : ℕ × A) (ps : List (ℕ × A)) → (k ≡ p.0 → ⊥) → on k (p ∷ ps) ≡ on k ps
on_other k p ps n = on_cases (λ xs. xs ≡ on k ps) k p ps (λ e. absurd (n e)) (λ _. refl)

-- no write is one on a number below all
pub on_below : {A : Type 0} (k : ℕ) (ps : List (ℕ × A)) → Over k ps → on k ps ≡ []
on_below k [] h = refl
on_below k (p ∷ ps) h = on_other k p ps (λ e. omega (arith, h.0, e)) ∙ on_below k ps h.1

pub over_from : {A : Type 0} (k f : ℕ) (ps : List (ℕ × A)) → k < f → From f ps → Over k ps
over_from k f [] l h = tt
over_from k f (p ∷ ps) l h = (omega (arith, l, h.0), over_from k f ps l h.1)

no_cons : {A : Type 0} (x : A) (xs : List A) → x ∷ xs ≡ [] → ⊥
no_cons x xs e = let l : suc (length xs) ≡ 0 = ap length e in omega (arith, l)

none_after : {A : Type 0} (k : ℕ) (p : ℕ × A) (ps : List (ℕ × A)) → on k (p ∷ ps) ≡ [] → on k ps ≡ []
none_after k p ps = on_cases (λ xs. xs ≡ [] → on k ps ≡ []) k p ps (λ _ e. absurd (no_cons _ _ e)) (λ _ e. e)

not_there : {A : Type 0} (k : ℕ) (p : ℕ × A) (ps : List (ℕ × A)) → on k (p ∷ ps) ≡ [] → k ≡ p.0 → ⊥
not_there k p ps h e = no_cons _ _ (sym (on_here k p ps e) ∙ h)

pub none_out : {A : Type 0} (n k : ℕ) (ps : List (ℕ × A)) → AreIn n ps → n ≤ k → on k ps ≡ []
none_out n k [] h l = refl
none_out n k (p ∷ ps) h l = on_other k p ps (λ e. omega (arith, h.0, l, e)) ∙ none_out n k ps h.1 l

in_by : {A : Type 0} (n : ℕ) (ps : List (ℕ × A)) → ((k : ℕ) → n ≤ k → on k ps ≡ []) → AreIn n ps
in_by n [] h = tt
in_by n (p ∷ ps) h =
    let out : n ≤ p.0 → ⊥ = λ l. not_there p.0 p ps (h p.0 l) refl in
    (omega (arith, out), in_by n ps (λ k l. none_after k p ps (h k l)))

-- numbers stay below a bound
pub sorted_in : {A : Type 0} (n : ℕ) (xs ys : List (ℕ × A)) → Sorts xs ys → AreIn n xs → AreIn n ys
sorted_in n xs ys s h = in_by n ys (λ k l. s.same k ∙ none_out n k xs h l)

tie_by : (m n : ℕ) (b c : Bool) → nat_eq m n ≡ b → not (is_lt (nat_cmp m n)) && not (is_lt (nat_cmp n m)) ≡ c → b ≡ c
tie_by m n true true e h = refl
tie_by m n false false e h = refl
tie_by m n true false e h = let k : m ≡ n = eqb-true m n e in grind (arith, nat_tests)
tie_by m n false true e h = let k = eqb-false m n e in absurd (k (grind (arith, nat_tests)))

module _ {X A : Type 0} (view : X → ℕ × A) where
  abbrev number : X → ℕ
  number x = (view x).0

  abbrev part : X → A
  part x = (view x).1

  from_rising : (y : X) (ys : List X) → ((j : ℕ) (d : X) → j < length ys → number y ≤ number (get_or ys j d)) → From (number y) (map view ys)
  from_rising y [] h = tt
  from_rising y (z ∷ zs) h = (h 0 z (omega arith), from_rising y zs (λ j d b. h (suc j) d (omega arith)))

  rising : (ys : List X) → IsNonDecreasingBy number ys → Ordered (map view ys)
  rising [] h = tt
  rising (y ∷ ys) h = (from_rising y ys (λ j d b. h 0 (suc j) d (omega arith) (omega arith)), rising ys (λ i j d a b. h (suc i) (suc j) d (omega arith) (omega arith)))

  kept_by : (z x : X) (xs : List X) (b c : Bool) → b ≡ c → on (number z) (map view xs) ≡ map part (filter (ties (λ a b. is_lt (nat_cmp (number a) (number b))) z) xs) → (if b then part x ∷ on (number z) (map view xs) else on (number z) (map view xs)) ≡ map part (cond c (x ∷ filter (ties (λ a b. is_lt (nat_cmp (number a) (number b))) z) xs) (filter (ties (λ a b. is_lt (nat_cmp (number a) (number b))) z) xs))
  kept_by z x xs true true e h = ap (λ ps. part x ∷ ps) h
  kept_by z x xs false false e h = h
  kept_by z x xs true false e h = absurd (true≢false e)
  kept_by z x xs false true e h = absurd (true≢false (sym e))

  kept : (z : X) (xs : List X) → on (number z) (map view xs) ≡ map part (filter (ties (λ a b. is_lt (nat_cmp (number a) (number b))) z) xs)
  kept z [] = refl
  kept z (x ∷ xs) = kept_by z x xs _ _ (tie_by (number z) (number x) _ _ refl refl) (kept z xs)

  kept_at : (make : X → ℕ → X) → ((x : X) (k : ℕ) → number (make x k) ≡ k) → (xs ys : List X) → IsStableByKey number nat_cmp xs ys → length ys ≡ length xs → (k : ℕ) → on k (map view ys) ≡ on k (map view xs)
  kept_at make is [] ys h e k = ap (λ l. on k (map view l)) (nil_from_length ys e)
  kept_at make is (x ∷ xs) ys h e k =
      subst (λ (n : ℕ). on n (map view ys) ≡ on n (map view (x ∷ xs))) (is x k) (kept (make x k) ys ∙ ap (map part) (h (make x k)) ∙ sym (kept (make x k) (x ∷ xs)))

  pub sorts_by : (make : X → ℕ → X) → ((x : X) (k : ℕ) → number (make x k) ≡ k) → (xs ys : List X) → IsSortedByKey number nat_cmp ys → IsStableByKey number nat_cmp xs ys → length ys ≡ length xs → Sorts (map view xs) (map view ys)
  sorts_by make is xs ys s h e = record { order = rising ys (IsNonDecreasingBy-from_sort number ys s); same = kept_at make is xs ys h e }
