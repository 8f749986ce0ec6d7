-- Members of lists of numbers.
use Rattle.std.proofs.Common.{◌≡◌, ◌⊎◌, ℕ, suc, ◌<◌, Bool, true, false, List, [], ◌∷◌, ◌++◌, refl, sym, subst, inl, inr, arith}
use Rattle.std.proofs.lemmas.Bool.Decides.{nat_tests}
use Rattle.plus_model.specs.Firing.{is_in}
use Rattle.plus_model.specs.Running.{IsRising}
use Rattle.plus_model.proofs.Members.{in_first, in_later, in_cases}

pub in_left : (xs ys : List ℕ) (a : ℕ) → is_in xs a ≡ true → is_in (xs ++ ys) a ≡ true
in_left [] ys a h = cc
in_left (x ∷ xs) ys a h = elim (in_cases a x xs h) [
  | inl e ↦ subst (λ b. is_in (x ∷ (xs ++ ys)) b ≡ true) (sym e) (in_first x (xs ++ ys))
  | inr i ↦ in_later a x (xs ++ ys) (in_left xs ys a i)
]

pub in_right : (xs ys : List ℕ) (a : ℕ) → is_in ys a ≡ true → is_in (xs ++ ys) a ≡ true
in_right [] ys a h = h
in_right (x ∷ xs) ys a h = in_later a x (xs ++ ys) (in_right xs ys a h)

pub in_either : (xs ys : List ℕ) (a : ℕ) → is_in (xs ++ ys) a ≡ true → (is_in xs a ≡ true) ⊎ (is_in ys a ≡ true)
in_either [] ys a h = inr h
in_either (x ∷ xs) ys a h = elim (in_cases a x (xs ++ ys) h) [
  | inl e ↦ inl (subst (λ b. is_in (x ∷ xs) b ≡ true) (sym e) (in_first x xs))
  | inr i ↦ elim (in_either xs ys a i) [ inl l ↦ inl (in_later a x xs l) | inr r ↦ inr r ]
]

pub false_unless : (b c : Bool) → (b ≡ true → c ≡ true) → c ≡ false → b ≡ false
false_unless false c f h = refl
false_unless true c f h = (let k = f refl in cc)

pub not_left : (xs ys : List ℕ) (a : ℕ) → is_in (xs ++ ys) a ≡ false → is_in xs a ≡ false
not_left xs ys a h = false_unless (is_in xs a) (is_in (xs ++ ys) a) (in_left xs ys a) h

pub not_right : (xs ys : List ℕ) (a : ℕ) → is_in (xs ++ ys) a ≡ false → is_in ys a ≡ false
not_right xs ys a h = false_unless (is_in ys a) (is_in (xs ++ ys) a) (in_right xs ys a) h

-- numbers below the start are no members
pub none_below : (n k : ℕ) (xs : List ℕ) → IsRising n xs → k < n → is_in xs k ≡ false
none_below n k [] r h = refl
none_below n k (x ∷ xs) r h =
    let b = r.0 in
    let rest = none_below (suc x) k xs r.1 (omega arith) in
    let other : k < x = omega arith in
    grind (arith, nat_tests)

-- a number that is not the first is a member where it is a later one
pub not_first : (k x : ℕ) (xs : List ℕ) → (k ≡ x → ⊥) → is_in (x ∷ xs) k ≡ is_in xs k
not_first k x xs h = grind (arith, nat_tests)

-- a number that is no member of a list is neither its first nor a later one
pub not_behind : (x : ℕ) (xs : List ℕ) (k : ℕ) → is_in (x ∷ xs) k ≡ false → is_in xs k ≡ false
not_behind x xs k h = false_unless (is_in xs k) (is_in (x ∷ xs) k) (in_later k x xs) h

pub apart : (x : ℕ) (xs : List ℕ) (k : ℕ) → is_in (x ∷ xs) k ≡ false → k ≡ x → ⊥
apart x xs k h e = let m : is_in (x ∷ xs) k ≡ true = subst (λ j. is_in (x ∷ xs) j ≡ true) (sym e) (in_first x xs) in cc
