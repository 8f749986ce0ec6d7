-- The objects of a type are among all, and ascend.
use Rattle.std.proofs.Common.{◌≡◌, ℕ, zero, suc, ◌+◌, ◌<◌, ◌≤◌, Bool, true, false, List, [], ◌∷◌, ◌++◌, ap, sym, refl, ◌∙◌, length, cond, not, nat_eq, get_or, drop, drop-cons, ◌-◌, arith}
use Rattle.std.specs.List.{position_or_len}
use Rattle.std.proofs.lemmas.Bool.Decides.{Decides-eqb}
use Rattle.plus_tree.specs.declared.terms.TypedName.{TypedName}
use Rattle.plus_types.specs.Types.{Binding, bindings_of, bound_names, is_under}
use Rattle.plus_types.proofs.KindsLemmas.{map-append}
use Rattle.plus_expansion.specs.Objects.{places_from}
use Rattle.plus_expansion.proofs.Places.{same-number}

pub places-append :
    (types : List Binding) (kind : List ℕ) (n m : ℕ) (xs ys : List Binding) → m ≡ n + length xs
    → places_from types kind n (xs ++ ys) ≡ places_from types kind n xs ++ places_from types kind m ys
places-append types kind n m [] ys e = let q : n ≡ m = omega arith in ap (λ k. places_from types kind k ys) q
places-append types kind n m (x ∷ xs) ys e = by (is_under types x.1 kind) (places-append types kind (suc n) m xs ys (omega arith))
  where
    by :
        (b : Bool) → places_from types kind (suc n) (xs ++ ys) ≡ places_from types kind (suc n) xs ++ places_from types kind m ys
        → cond b (n ∷ places_from types kind (suc n) (xs ++ ys)) (places_from types kind (suc n) (xs ++ ys))
        ≡ cond b (n ∷ places_from types kind (suc n) xs) (places_from types kind (suc n) xs) ++ places_from types kind m ys
    by true more = ap (λ zs. n ∷ zs) more
    by false more = more

pub length-bindings : (xs : List TypedName) → length (bindings_of xs) ≡ length xs
length-bindings [] = refl
length-bindings (x ∷ xs) = ap suc (length-bindings xs)

pub length-places : (types : List Binding) (kind : List ℕ) (n : ℕ) (os : List Binding) → length (places_from types kind n os) ≤ length os
length-places types kind n [] = omega arith
length-places types kind n (x ∷ xs) = by (is_under types x.1 kind) (length-places types kind (suc n) xs)
  where
    by :
        (b : Bool) → length (places_from types kind (suc n) xs) ≤ length xs
        → length (cond b (n ∷ places_from types kind (suc n) xs) (places_from types kind (suc n) xs)) ≤ length (x ∷ xs)
    by true more = omega arith
    by false more = omega arith

-- ---- numbers that ascend, the first of which is no less than n

abbrev pub Rises : ℕ → List ℕ → Type 0
Rises n [] = Unit {0}
Rises n (x ∷ xs) = (n ≤ x) × Rises (suc x) xs

pub rises-lower : (m n : ℕ) (xs : List ℕ) → m ≤ n → Rises n xs → Rises m xs
rises-lower m n [] h r = tt
rises-lower m n (x ∷ xs) h r = let q : n ≤ x = r.0 in (omega arith, r.1)

pub rises-places : (types : List Binding) (kind : List ℕ) (n : ℕ) (os : List Binding) → Rises n (places_from types kind n os)
rises-places types kind n [] = tt
rises-places types kind n (x ∷ xs) = by (is_under types x.1 kind) (rises-places types kind (suc n) xs)
  where
    by :
        (b : Bool) → Rises (suc n) (places_from types kind (suc n) xs)
        → Rises n (cond b (n ∷ places_from types kind (suc n) xs) (places_from types kind (suc n) xs))
    by true more = (omega arith, more)
    by false more = rises-lower n (suc n) (places_from types kind (suc n) xs) (omega arith) more

pub rises-least : (n : ℕ) (xs : List ℕ) (i : ℕ) → Rises n xs → i < length xs → n ≤ get_or xs i 0
rises-least n [] i r h = absurd (omega arith)
rises-least n (x ∷ xs) zero r h = r.0
rises-least n (x ∷ xs) (suc i) r h =
    let a : n ≤ x = r.0 in
    let b : suc x ≤ get_or xs i 0 = rises-least (suc x) xs i r.1 (omega arith) in
    omega arith

pub rises-order : (n : ℕ) (xs : List ℕ) → Rises n xs → (i j : ℕ) → i ≤ j → j < length xs → get_or xs i 0 ≤ get_or xs j 0
rises-order n [] r i j h k = absurd (omega arith)
rises-order n (x ∷ xs) r zero zero h k = omega arith
rises-order n (x ∷ xs) r zero (suc j) h k = let b : suc x ≤ get_or xs j 0 = rises-least (suc x) xs j r.1 (omega arith) in omega arith
rises-order n (x ∷ xs) r (suc i) zero h k = absurd (omega arith)
rises-order n (x ∷ xs) r (suc i) (suc j) h k = rises-order (suc x) xs r.1 i j (omega arith) (omega arith)

pub other-number : (m n : ℕ) → (m ≡ n → ⊥) → nat_eq m n ≡ false
other-number m n h = by (nat_eq m n) refl
  where
    by : (b : Bool) → nat_eq m n ≡ b → b ≡ false
    by true w = absurd (h ((Decides-eqb m n).0 w))
    by false w = refl

-- the first place of what stands at a place
pub rises-place : (n : ℕ) (xs : List ℕ) (i y : ℕ) → Rises n xs → i < length xs → get_or xs i 0 ≡ y → position_or_len (nat_eq y) xs ≡ i
rises-place n [] i y r h e = absurd (omega arith)
rises-place n (x ∷ xs) zero y r h e =
    ap (λ b. cond (not b) (1 + position_or_len (nat_eq y) xs) 0) (ap (λ z. nat_eq z x) (sym e) ∙ same-number x)
rises-place n (x ∷ xs) (suc i) y r h e =
    let b : suc x ≤ get_or xs i 0 = rises-least (suc x) xs i r.1 (omega arith) in
    let later : position_or_len (nat_eq y) xs ≡ i = rises-place (suc x) xs i y r.1 (omega arith) e in
    let ne : y ≡ x → ⊥ = λ q. absurd (omega arith) in
    let s : 1 + position_or_len (nat_eq y) xs ≡ suc i = omega arith in
    ap (λ b. cond (not b) (1 + position_or_len (nat_eq y) xs) 0) (other-number y x ne) ∙ s

-- what stands at no place has none
pub place-nowhere : (xs : List ℕ) (y : ℕ) → ((k : ℕ) → k < length xs → get_or xs k 0 ≡ y → ⊥) → position_or_len (nat_eq y) xs ≡ length xs
place-nowhere [] y h = refl
place-nowhere (x ∷ xs) y h =
    let later : position_or_len (nat_eq y) xs ≡ length xs = place-nowhere xs y (λ k l e. h (suc k) (omega arith) e) in
    let ne : y ≡ x → ⊥ = λ q. h 0 (omega arith) (sym q) in
    let s : 1 + position_or_len (nat_eq y) xs ≡ length (x ∷ xs) = omega arith in
    ap (λ b. cond (not b) (1 + position_or_len (nat_eq y) xs) 0) (other-number y x ne) ∙ s

-- the constants, then the objects
pub places-pair :
    (types : List Binding) (kind : List ℕ) (n : ℕ) (constants objects xs ys : List TypedName) (none first all : List ℕ)
    → xs ≡ constants → ys ≡ objects → n ≡ length constants → none ≡ [] → first ≡ none ++ places_from types kind 0 (bindings_of xs)
    → all ≡ first ++ places_from types kind n (bindings_of ys) → all ≡ places_from types kind 0 (bindings_of (constants ++ objects))
places-pair types kind n constants objects xs ys none first all x y l e f a =
    let m : n ≡ 0 + length (bindings_of constants) = let b = length-bindings constants in omega arith in
    a ∙ ap (λ zs. zs ++ places_from types kind n (bindings_of ys)) (f ∙ ap (λ zs. zs ++ places_from types kind 0 (bindings_of xs)) e)
    ∙ ap (λ ts. places_from types kind 0 (bindings_of ts) ++ places_from types kind n (bindings_of ys)) x
    ∙ ap (λ ts. places_from types kind 0 (bindings_of constants) ++ places_from types kind n (bindings_of ts)) y
    ∙ sym (places-append types kind 0 n (bindings_of constants) (bindings_of objects) m)
    ∙ ap (places_from types kind 0) (sym (map-append (λ t. (t.name.name, t.kind.name)) constants objects))

-- ---- the names of the objects

pub named-constant : (constants objects : List TypedName) (i : ℕ) (x : TypedName) → i < length constants → x ≡ get_or constants i x
    → get_or (bound_names (bindings_of (constants ++ objects))) i [] ≡ x.name.name
named-constant [] objects i x h m = absurd (omega arith)
named-constant (t ∷ ts) objects zero x h m = ap (λ y. y.name.name) (sym m)
named-constant (t ∷ ts) objects (suc i) x h m = named-constant ts objects i x (omega arith) m

pub named-object :
    (constants objects : List TypedName) (i : ℕ) (x : TypedName) → length constants ≤ i → i - length constants < length objects → x ≡ get_or objects (i - length constants) x
    → get_or (bound_names (bindings_of (constants ++ objects))) i [] ≡ x.name.name
named-object [] objects i x h l m =
    let z : i - 0 ≡ i = omega arith in
    here objects i (omega arith) (m ∙ ap (λ j. get_or objects j x) z)
  where
    here : (os : List TypedName) (j : ℕ) → j < length os → x ≡ get_or os j x → get_or (bound_names (bindings_of os)) j [] ≡ x.name.name
    here [] j l e = absurd (omega arith)
    here (o ∷ os) zero l e = ap (λ y. y.name.name) (sym e)
    here (o ∷ os) (suc j) l e = here os j (omega arith) e
named-object (t ∷ ts) objects zero x h l m = absurd (omega arith)
named-object (t ∷ ts) objects (suc i) x h l m =
    let z : suc i - length (t ∷ ts) ≡ i - length ts = omega arith in
    named-object ts objects i x (omega arith) (omega arith) (m ∙ ap (λ j. get_or objects j x) z)
