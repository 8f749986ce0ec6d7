-- The objects of a type rise, so that a search tells whether one is among them.
use Rattle.std.proofs.Common.{◌≡◌, ℕ, ◌<◌, ◌≤◌, zero, suc, Bool, true, false, List, [], ◌∷◌, length, get_or, refl, sym, inl, inr, arith, cond, nat_eq}
use Rattle.std.proofs.lemmas.Bool.{cases_lt}
use Rattle.std.proofs.lemmas.Bool.Decides.{nat_tests}
use Rattle.std.proofs.lemmas.Cmp.{ranked}
use Rattle.std.proofs.lemmas.List.Sorted.{IsNonDecreasingBy-from_default}
use Rattle.std.specs.Prelude.{Ok, Err}
use Rattle.std.specs.List.{list_any}
use Rattle.std.specs.List.Sorted.{IsBinarySearchResult, IsNonDecreasingBy}
use Rattle.std.specs.Ordering.{nat_cmp, ordering_index}
use Rattle.plus_model.specs.Running.{IsRising}
use Rattle.plus_types.specs.Types.{Binding, is_under}
use Rattle.plus_types.specs.Faults.{Context}
use Rattle.plus_expansion.specs.Objects.{places_from, members_of}

-- ---- the objects of a type
rise_from : (n m : ℕ) (xs : List ℕ) → n ≤ m → IsRising m xs → IsRising n xs
rise_from n m [] l h = tt
rise_from n m (x ∷ xs) l h = (let b = h.0 in omega arith, h.1)

places_rise : (types : List Binding) (kind : List ℕ) (n : ℕ) (os : List Binding) → IsRising n (places_from types kind n os)
places_rise types kind n [] = tt
places_rise types kind n (o ∷ os) = choose (is_under types o.1 kind) (places_rise types kind (suc n) os)
  where
    choose : (b : Bool) → IsRising (suc n) (places_from types kind (suc n) os) → IsRising n (cond b (n ∷ places_from types kind (suc n) os) (places_from types kind (suc n) os))
    choose true h = (omega arith, h)
    choose false h = rise_from n (suc n) _ (omega arith) h

pub members_rise : (c : Context) (kind : List ℕ) → IsRising 0 (members_of c kind)
members_rise c kind = places_rise c.types kind 0 c.objects

-- ---- a search among numbers that rise
least : (xs : List ℕ) (n j d : ℕ) → IsRising n xs → j < length xs → n ≤ get_or xs j d
least [] n j d r h = absurd (omega arith)
least (x ∷ xs) n zero d r h = r.0
least (x ∷ xs) n (suc j) d r h =
    let b = r.0 in
    let l = least xs (suc x) j d r.1 (omega arith) in
    omega arith

rises : (xs : List ℕ) (n i j d : ℕ) → IsRising n xs → i ≤ j → j < length xs → get_or xs i d ≤ get_or xs j d
rises [] n i j d r l h = absurd (omega arith)
rises (x ∷ xs) n zero zero d r l h = omega arith
rises (x ∷ xs) n zero (suc j) d r l h = (let b = least xs (suc x) j d r.1 (omega arith) in omega arith)
rises (x ∷ xs) n (suc i) zero d r l h = absurd (omega arith)
rises (x ∷ xs) n (suc i) (suc j) d r l h = rises xs (suc x) i j d r.1 (omega arith) (omega arith)

pub found : (xs : List ℕ) (i k d : ℕ) → i < length xs → get_or xs i d ≡ k → list_any (nat_eq k) xs ≡ true
found [] i k d h e = absurd (omega arith)
found (x ∷ xs) zero k d h e = grind (arith, nat_tests)
found (x ∷ xs) (suc i) k d h e =
    let more = found xs i k d (omega arith) e in
    grind (arith, nat_tests)

lost : (xs : List ℕ) (k d : ℕ) → ((j : ℕ) → j < length xs → get_or xs j d ≡ k → ⊥) → list_any (nat_eq k) xs ≡ false
lost [] k d f = refl
lost (x ∷ xs) k d f =
    let apart : x ≡ k → ⊥ = f 0 (omega arith) in
    let more = lost xs k d (λ j h e. f (suc j) (omega arith) e) in
    grind (arith, nat_tests)

compared_rise : (xs : List ℕ) (k d : ℕ) → IsRising 0 xs → IsNonDecreasingBy (λ (y : ℕ). ordering_index (nat_cmp y k)) xs
compared_rise xs k d r = IsNonDecreasingBy-from_default (λ (y : ℕ). ordering_index (nat_cmp y k)) xs d (λ i j l h.
    let up : get_or xs i d ≤ get_or xs j d = rises xs 0 i j d r l h in
    grind (arith, nat_tests))

pub found_at : (xs : List ℕ) (k i : ℕ) → i < length xs → IsBinarySearchResult (λ (y : ℕ). nat_cmp y k) xs (Ok i) → true ≡ list_any (nat_eq k) xs
found_at xs k i h s = sym (found xs i k k h (ranked _ k _ (sym (s k))))

pub not_found : (xs : List ℕ) (k i : ℕ) → IsRising 0 xs → IsBinarySearchResult (λ (y : ℕ). nat_cmp y k) xs (Err i) → false ≡ list_any (nat_eq k) xs
not_found xs k i r s = sym (lost xs k k (λ j h e. apart j h e))
  where
    apart : (j : ℕ) → j < length xs → get_or xs j k ≡ k → ⊥
    apart j h e = elim (cases_lt j i) [
      | inl b ↦ (let l = ranked _ k _ (sym ((s (compared_rise xs k k r)).0 j k (omega arith) b)) in omega arith)
      | inr b ↦ (let l = ranked _ k _ (sym ((s (compared_rise xs k k r)).1 j k (omega arith) h)) in omega arith)
    ]
