-- The number of those that have a property is one number.
use Rattle.std.proofs.Common.{◌≡◌, ◌⊎◌, inl, inr, ℕ, suc, ◌≤◌, List, [], ◌∷◌, length, refl, ap, sym, subst, ◌∙◌, arith}
use Rattle.plus_search.specs.Lists.{IsIn, Differ, Number}

without : {X : Type 0} (x : X) (ys : List X) → IsIn x ys → (rest : List X) × (length ys ≡ suc (length rest)) × ((z : X) → IsIn z ys → (z ≡ x) ⊎ IsIn z rest)
without x [] h = elim h [ ]
without x (y ∷ ys) (inl e) = (ys, refl, λ z i. elim i [ inl k ↦ inl (k ∙ sym e) | inr k ↦ inr k ])
without x (y ∷ ys) (inr h) =
    let w = without x ys h in
    (y ∷ w.0, ap suc w.1, λ z i. elim i [ inl k ↦ inr (inl k) | inr k ↦ elim (w.2 z k) [ inl e ↦ inl e | inr j ↦ inr (inr j) ] ])

at_most : {X : Type 0} (xs ys : List X) → Differ xs → ((x : X) → IsIn x xs → IsIn x ys) → length xs ≤ length ys
at_most [] ys d s = omega arith
at_most (x ∷ xs) ys d s =
    let w = without x ys (s x (inl refl)) in
    let k = at_most xs w.0 d.1 (λ z i. elim (w.2 z (s z (inr i))) [ inl e ↦ absurd (d.0 (subst (λ t. IsIn t xs) e i)) | inr j ↦ j ]) in
    let e = w.1 in
    omega (arith, e, k)

pub number_once : {X : Type 0} (P : X → Type 0) (n m : ℕ) → Number P n → Number P m → n ≡ m
number_once P n m a b =
    let k = at_most a.all b.all a.differ (λ x i. (b.members x).1 ((a.members x).0 i)) in
    let l = at_most b.all a.all b.differ (λ x i. (a.members x).1 ((b.members x).0 i)) in
    let e = a.size in
    let f = b.size in
    omega (arith, e, f, k, l)
