-- Being under a type: what is under a type is under all that are above it.
use Rattle.std.proofs.Common.{◌≡◌, ℕ, zero, suc, ◌<◌, ◌≤◌, ◌⊎◌, inl, inr, ⊎_elim, Bool, true, false, cond, ◌||◌, List, [], ◌∷◌, ap, sym, refl, ◌∙◌, true≢false, Option, Some, None, length, arith}
use Rattle.std.specs.List.{list_any}
use Rattle.std.specs.Str.{bytes_eq}
use Rattle.std.proofs.lemmas.Bool.{cases_lt, or_left}
use Rattle.plus_types.specs.Types.{is_among, Binding, bound_names, kind_of, object_name, right_above, is_above_within, is_above, is_under}
use Rattle.plus_types.specs.Listed.{IsListed}
use Rattle.plus_types.proofs.TypesLemmas.{within-zero, within-suc, above-is, under-is, none-above-object, object-above, climb-none, same-bytes, or-right}

-- ---- tests

pub or-map : (a b c : Bool) → (b ≡ true → c ≡ true) → (a || b) ≡ true → (a || c) ≡ true
or-map true b c f e = refl
or-map false b c f e = f e

pub any-more : {X : Type 0} (p q : X → Bool) → ((x : X) → p x ≡ true → q x ≡ true) → (xs : List X) → list_any p xs ≡ true → list_any q xs ≡ true
any-more p q h [] e = e
any-more {X} p q h (x ∷ xs) e = by (p x) refl e (any-more p q h xs)
  where
    by : (b : Bool) → p x ≡ b → (b || list_any p xs) ≡ true → (list_any p xs ≡ true → list_any q xs ≡ true) → (q x || list_any q xs) ≡ true
    by true is e more = or_left (q x) (list_any q xs) (h x is)
    by false is e more = or-right (q x) (list_any q xs) (more e)

-- how many names pass
tally : (List ℕ → Bool) → List Binding → ℕ
tally p [] = 0
tally p (b ∷ bs) = cond (p b.0) (suc (tally p bs)) (tally p bs)

tally-within : (p : List ℕ → Bool) (bs : List Binding) → tally p bs ≤ length bs
unfolding tally
tally-within p [] = omega arith
tally-within p (b ∷ bs) = by (p b.0) (tally-within p bs)
  where
    by : (t : Bool) → tally p bs ≤ length bs → cond t (suc (tally p bs)) (tally p bs) ≤ suc (length bs)
    by true le = omega arith
    by false le = omega arith

tally-more : (p q : List ℕ → Bool) → ((x : List ℕ) → p x ≡ true → q x ≡ true) → (bs : List Binding) → tally p bs ≤ tally q bs
unfolding tally
tally-more p q h [] = omega arith
tally-more p q h (b ∷ bs) = by (p b.0) (q b.0) (h b.0) (tally-more p q h bs)
  where
    by :
        (t u : Bool) → (t ≡ true → u ≡ true) → tally p bs ≤ tally q bs
        → cond t (suc (tally p bs)) (tally p bs) ≤ cond u (suc (tally q bs)) (tally q bs)
    by true true f le = omega arith
    by true false f le = absurd (true≢false (sym (f refl)))
    by false true f le = omega arith
    by false false f le = le

-- where no more names pass the weaker test, each that passes it passes the other
tally-same :
    (p q : List ℕ → Bool) → ((x : List ℕ) → p x ≡ true → q x ≡ true) → (bs : List Binding) → tally q bs ≤ tally p bs
    → (k : List ℕ) → is_among (bound_names bs) k ≡ true → q k ≡ true → p k ≡ true
unfolding tally
tally-same p q h [] le k there e = absurd (true≢false (sym there))
tally-same p q h (b ∷ bs) le k there e =
    by (p b.0) (q b.0) refl refl (h b.0) le (tally-more p q h bs) (λ l t. tally-same p q h bs l k t e)
  where
    here : (t : Bool) → p b.0 ≡ t → (q b.0 ≡ true → t ≡ true) → bytes_eq k b.0 ≡ true → p k ≡ true
    here t is f same = let name = same-bytes k b.0 same in ap p name ∙ is ∙ f (ap q (sym name) ∙ e)

    there-or :
        (s t : Bool) → bytes_eq k b.0 ≡ s → p b.0 ≡ t → (q b.0 ≡ true → t ≡ true) → (s || is_among (bound_names bs) k) ≡ true
        → (is_among (bound_names bs) k ≡ true → p k ≡ true) → p k ≡ true
    there-or true t same is f w more = here t is f same
    there-or false t same is f w more = more w

    by :
        (t u : Bool) → p b.0 ≡ t → q b.0 ≡ u → (t ≡ true → u ≡ true)
        → cond u (suc (tally q bs)) (tally q bs) ≤ cond t (suc (tally p bs)) (tally p bs) → tally p bs ≤ tally q bs
        → (tally q bs ≤ tally p bs → is_among (bound_names bs) k ≡ true → p k ≡ true) → p k ≡ true
    by true true is also f le back more = there-or (bytes_eq k b.0) true refl is (λ w. refl) there (more (omega arith))
    by false true is also f le back more = absurd (omega arith)
    by true false is also f le back more = absurd (true≢false (sym (f refl)))
    by false false is also f le back more = there-or (bytes_eq k b.0) false refl is (λ w. sym also ∙ w) there (more le)

-- ---- ways up

kind-among : (bs : List Binding) (k up : List ℕ) → kind_of bs k ≡ Some up → is_among (bound_names bs) k ≡ true
kind-among [] k up e = cc
kind-among (b ∷ bs) k up e = by (bytes_eq k b.0) e (kind-among bs k up)
  where
    by : (t : Bool) → cond t (Some b.1) (kind_of bs k) ≡ Some up → (kind_of bs k ≡ Some up → is_among (bound_names bs) k ≡ true) → (t || is_among (bound_names bs) k) ≡ true
    by true e more = refl
    by false e more = more e

-- a way up in so many steps is one in more
step-more : (types : List Binding) (high : List ℕ) (n : ℕ) (low : List ℕ) → is_above_within types n high low ≡ true → is_above_within types (suc n) high low ≡ true
step-more types high zero low e = absurd (true≢false (sym e ∙ within-zero types high low))
step-more types high (suc n) low e =
    within-suc types (suc n) high low
    ∙ any-more (λ k. bytes_eq high k || is_above_within types n high k) (λ k. bytes_eq high k || is_above_within types (suc n) high k)
    (λ k w. or-map (bytes_eq high k) _ _ (step-more types high n k) w)
    (right_above types low) (sym (within-suc types n high low) ∙ e)

-- one more step reaches the type from no other
IsStable : List Binding → List ℕ → ℕ → Type 0
IsStable types high n = (low : List ℕ) → is_above_within types (suc n) high low ≡ true → is_above_within types n high low ≡ true

stable-more : (types : List Binding) (high : List ℕ) (n : ℕ) → IsStable types high n → IsStable types high (suc n)
unfolding IsStable
stable-more types high n stable low e =
    within-suc types n high low
    ∙ any-more (λ k. bytes_eq high k || is_above_within types (suc n) high k) (λ k. bytes_eq high k || is_above_within types n high k)
    (λ k w. or-map (bytes_eq high k) _ _ (stable k) w)
    (right_above types low) (sym (within-suc types (suc n) high low) ∙ e)

-- what has a type other than `object` above it is listed
low-listed :
    (types : List Binding) (above : List (List ℕ)) (n : ℕ) (high low : List ℕ) → IsListed types above → bytes_eq high object_name ≡ false
    → is_above_within types (suc n) high low ≡ true → is_among (bound_names types) low ≡ true
low-listed types above n high low h ne e = by (kind_of types low) refl
  where
    by : (o : Option (List ℕ)) → kind_of types low ≡ o → is_among (bound_names types) low ≡ true
    by None is = absurd (true≢false (sym e ∙ climb-none types above n high low h ne is))
    by (Some up) is = kind-among types low up is

reached : List Binding → List ℕ → ℕ → ℕ
reached types high n = tally (is_above_within types n high) types

grows :
    (types : List Binding) (above : List (List ℕ)) (high : List ℕ) → IsListed types above → bytes_eq high object_name ≡ false → (n : ℕ)
    → (n ≤ reached types high n) ⊎ IsStable types high n
unfolding IsStable reached
grows types above high h ne zero = inl (omega arith)
grows types above high h ne (suc n) =
    ⊎_elim (λ le. next le (cases_lt (reached types high n) (reached types high (suc n)))) (λ s. inr (stable-more types high n s)) (grows types above high h ne n)
  where
    next :
        n ≤ reached types high n → (reached types high n < reached types high (suc n)) ⊎ (reached types high (suc n) ≤ reached types high n)
        → (suc n ≤ reached types high (suc n)) ⊎ IsStable types high (suc n)
    next le (inl more) = inl (omega arith)
    next le (inr same) =
        inr (stable-more types high n (λ low e. tally-same (is_above_within types n high) (is_above_within types (suc n) high) (step-more types high n) types same low (low-listed types above n high low h ne e) e))

stable-end :
    (types : List Binding) (above : List (List ℕ)) (high : List ℕ) → IsListed types above → bytes_eq high object_name ≡ false
    → IsStable types high (suc (length types))
unfolding reached
stable-end types above high h ne =
    ⊎_elim (λ le. absurd (omega (arith, tally-within (is_above_within types (suc (length types)) high) types))) (λ s. s)
    (grows types above high h ne (suc (length types)))

stable-object : (types : List Binding) (above : List (List ℕ)) → IsListed types above → IsStable types object_name (suc (length types))
unfolding IsStable
stable-object types above h low e = by (bytes_eq low object_name) refl
  where
    by : (b : Bool) → bytes_eq low object_name ≡ b → is_above_within types (suc (length types)) object_name low ≡ true
    by true is =
        absurd (true≢false (sym e ∙ ap (is_above_within types (suc (suc (length types))) object_name) (same-bytes low object_name is)
        ∙ none-above-object types above (suc (suc (length types))) object_name h))
    by false is = object-above types (length types) low h.chain is

stable : (types : List Binding) (above : List (List ℕ)) (high : List ℕ) → IsListed types above → IsStable types high (suc (length types))
unfolding IsStable
stable types above high h = by (bytes_eq high object_name) refl
  where
    by : (b : Bool) → bytes_eq high object_name ≡ b → IsStable types high (suc (length types))
    by true is = rw (same-bytes high object_name is) (stable-object types above h)
    by false is = stable-end types above high h is

climb :
    (types : List Binding) (N : ℕ) (mid high : List ℕ) → IsStable types high N → is_above_within types N high mid ≡ true → (m : ℕ) (low : List ℕ)
    → is_above_within types m mid low ≡ true → is_above_within types N high low ≡ true
unfolding IsStable
climb types N mid high s up zero low e = absurd (true≢false (sym e ∙ within-zero types mid low))
climb types N mid high s up (suc m) low e =
    s low (within-suc types N high low
    ∙ any-more (λ k. bytes_eq mid k || is_above_within types m mid k) (λ k. bytes_eq high k || is_above_within types N high k)
    (λ k w. or-right (bytes_eq high k) _ (by k (bytes_eq mid k) refl w (climb types N mid high s up m k)))
    (right_above types low) (sym (within-suc types m mid low) ∙ e))
  where
    by :
        (k : List ℕ) (b : Bool) → bytes_eq mid k ≡ b → (b || is_above_within types m mid k) ≡ true
        → (is_above_within types m mid k ≡ true → is_above_within types N high k ≡ true) → is_above_within types N high k ≡ true
    by k true same w more = ap (is_above_within types N high) (sym (same-bytes mid k same)) ∙ up
    by k false same w more = more w

pub under-through :
    (types : List Binding) (above : List (List ℕ)) → IsListed types above → (low mid high : List ℕ)
    → is_under types low mid ≡ true → is_under types mid high ≡ true → is_under types low high ≡ true
under-through types above h low mid high e f =
    under-is types low high ∙ by (bytes_eq mid low) (bytes_eq high mid) refl refl (sym (under-is types low mid) ∙ e) (sym (under-is types mid high) ∙ f)
  where
    by :
        (b d : Bool) → bytes_eq mid low ≡ b → bytes_eq high mid ≡ d → (b || is_above types mid low) ≡ true → (d || is_above types high mid) ≡ true
        → (bytes_eq high low || is_above types high low) ≡ true
    by true d same also u w =
        ap (λ x. bytes_eq high x || is_above types high x) (sym (same-bytes mid low same)) ∙ ap (λ x. x || is_above types high mid) also ∙ w
    by false true same also u w =
        ap (λ x. bytes_eq x low || is_above types x low) (same-bytes high mid also) ∙ or-right (bytes_eq mid low) _ u
    by false false same also u w =
        or-right (bytes_eq high low) _ (above-is types high low
        ∙ climb types (suc (length types)) mid high (stable types above high h) (sym (above-is types high mid) ∙ w) (suc (length types)) low (sym (above-is types mid low) ∙ u))
