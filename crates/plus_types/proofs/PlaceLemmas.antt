-- What the place of a name in a table says of the parts of the table.
use Rattle.std.proofs.Common.{◌≡◌, ℕ, zero, suc, ◌+◌, ◌<◌, ◌≤◌, Bool, true, false, List, [], ◌∷◌, ap, sym, refl, ◌∙◌, map, cond, ◌||◌, true≢false, Option, Some, None, drop, get_or, length, take, position, arith}
use Rattle.std.specs.List.{list_any, position_from}
use Rattle.std.specs.Str.{bytes_eq}
use Rattle.std.proofs.lemmas.Iterator.Adapters.{position_from-zero}
use Rattle.plus_tree.specs.declared.trees.Head.{Head}
use Rattle.plus_types.specs.Types.{is_among}
use Rattle.plus_types.specs.Faults.{params_of}
use Rattle.plus_types.proofs.TypesLemmas.{bytes-self}

-- a place that is counted from i on is no less than i
pub place-least : {X : Type 0} (t : X → Bool) (i j : ℕ) (xs : List X) → position_from t i xs ≡ Some j → i ≤ j
place-least t i j [] e = cc
place-least t i j (x ∷ xs) e = by (t x) e (place-least t (i + 1) j xs)
  where
    by : (b : Bool) → cond b (Some i) (position_from t (i + 1) xs) ≡ Some j → (position_from t (i + 1) xs ≡ Some j → i + 1 ≤ j) → i ≤ j
    by true e more = let q : i ≡ j = cc in omega arith
    by false e more = let q : i + 1 ≤ j = more e in omega arith

pub none-none : {X : Type 0} (t : X → Bool) (i : ℕ) (xs : List X) → position_from t i xs ≡ None → list_any t xs ≡ false
none-none t i [] e = refl
none-none t i (x ∷ xs) e = by (t x) e (none-none t (i + 1) xs)
  where
    by : (b : Bool) → cond b (Some i) (position_from t (i + 1) xs) ≡ None → (position_from t (i + 1) xs ≡ None → list_any t xs ≡ false) → (b || list_any t xs) ≡ false
    by true e more = cc
    by false e more = more e

-- a place below n is among the first n
pub place-before : {X : Type 0} (t : X → Bool) (i j n : ℕ) (xs : List X) → position_from t i xs ≡ Some j → j < i + n → list_any t (take n xs) ≡ true
place-before t i j n [] e h = cc
place-before t i j zero (x ∷ xs) e h = let q : i ≤ j = place-least t i j (x ∷ xs) e in absurd (omega arith)
place-before t i j (suc n) (x ∷ xs) e h = by (t x) e (place-before t (i + 1) j n xs)
  where
    by :
        (b : Bool) → cond b (Some i) (position_from t (i + 1) xs) ≡ Some j → (position_from t (i + 1) xs ≡ Some j → j < i + 1 + n → list_any t (take n xs) ≡ true)
        → (b || list_any t (take n xs)) ≡ true
    by true e more = refl
    by false e more = more e (omega arith)

-- a place from n on is not among the first n, but after them
pub place-after : {X : Type 0} (t : X → Bool) (i j n : ℕ) (xs : List X) → position_from t i xs ≡ Some j → i + n ≤ j → list_any t (take n xs) ≡ false
place-after t i j n [] e h = cc
place-after t i j zero (x ∷ xs) e h = refl
place-after t i j (suc n) (x ∷ xs) e h = by (t x) e (place-after t (i + 1) j n xs)
  where
    by :
        (b : Bool) → cond b (Some i) (position_from t (i + 1) xs) ≡ Some j → (position_from t (i + 1) xs ≡ Some j → i + 1 + n ≤ j → list_any t (take n xs) ≡ false)
        → (b || list_any t (take n xs)) ≡ false
    by true e more = let q : i ≡ j = cc in absurd (omega arith)
    by false e more = more e (omega arith)

pub place-there : {X : Type 0} (t : X → Bool) (i j n : ℕ) (xs : List X) → position_from t i xs ≡ Some j → i + n ≤ j → list_any t (drop n xs) ≡ true
place-there t i j n [] e h = cc
place-there t i j zero (x ∷ xs) e h = by (t x) e (place-there t (i + 1) j zero xs) (place-least t (i + 1) j xs)
  where
    by :
        (b : Bool) → cond b (Some i) (position_from t (i + 1) xs) ≡ Some j → (position_from t (i + 1) xs ≡ Some j → i + 1 + 0 ≤ j → list_any t xs ≡ true)
        → (position_from t (i + 1) xs ≡ Some j → i + 1 ≤ j) → (b || list_any t xs) ≡ true
    by true e more least = refl
    by false e more least = let q : i + 1 ≤ j = least e in more e (omega arith)
place-there t i j (suc n) (x ∷ xs) e h = by (t x) e (place-there t (i + 1) j n xs)
  where
    by :
        (b : Bool) → cond b (Some i) (position_from t (i + 1) xs) ≡ Some j → (position_from t (i + 1) xs ≡ Some j → i + 1 + n ≤ j → list_any t (drop n xs) ≡ true)
        → list_any t (drop n xs) ≡ true
    by true e more = let q : i ≡ j = cc in absurd (omega arith)
    by false e more = more e (omega arith)

-- the parameters are those of the head at the place of the name
pub params-none : (name : List ℕ) (i : ℕ) (hs : List Head) → position_from (bytes_eq name) i (map (λ h. h.name.name) hs) ≡ None → params_of hs name ≡ None
params-none name i [] e = refl
params-none name i (h ∷ hs) e = by (bytes_eq name h.name.name) e (params-none name (i + 1) hs)
  where
    by :
        (b : Bool) → cond b (Some i) (position_from (bytes_eq name) (i + 1) (map (λ h. h.name.name) hs)) ≡ None
        → (position_from (bytes_eq name) (i + 1) (map (λ h. h.name.name) hs) ≡ None → params_of hs name ≡ None)
        → cond b (Some h.params) (params_of hs name) ≡ None
    by true e more = cc
    by false e more = more e

pub params-some :
    (name : List ℕ) (i j m : ℕ) (d : Head) (hs : List Head) → position_from (bytes_eq name) i (map (λ h. h.name.name) hs) ≡ Some j → j ≡ i + m
    → params_of hs name ≡ Some (get_or hs m d).params
params-some name i j m d [] e q = cc
params-some name i j zero d (h ∷ hs) e q = by (bytes_eq name h.name.name) e (place-least (bytes_eq name) (i + 1) j (map (λ h. h.name.name) hs))
  where
    by :
        (b : Bool) → cond b (Some i) (position_from (bytes_eq name) (i + 1) (map (λ h. h.name.name) hs)) ≡ Some j
        → (position_from (bytes_eq name) (i + 1) (map (λ h. h.name.name) hs) ≡ Some j → i + 1 ≤ j)
        → cond b (Some h.params) (params_of hs name) ≡ Some h.params
    by true e least = refl
    by false e least = let w : i + 1 ≤ j = least e in absurd (omega arith)
params-some name i j (suc m) d (h ∷ hs) e q = by (bytes_eq name h.name.name) e (params-some name (i + 1) j m d hs)
  where
    by :
        (b : Bool) → cond b (Some i) (position_from (bytes_eq name) (i + 1) (map (λ h. h.name.name) hs)) ≡ Some j
        → (position_from (bytes_eq name) (i + 1) (map (λ h. h.name.name) hs) ≡ Some j → j ≡ i + 1 + m → params_of hs name ≡ Some (get_or hs m d).params)
        → cond b (Some h.params) (params_of hs name) ≡ Some (get_or hs m d).params
    by true e more = let w : i ≡ j = cc in absurd (omega arith)
    by false e more = more e (omega arith)

-- where a place is counted from 0
pub from-zero : {X : Type 0} (t : X → Bool) (xs : List X) (o : Option ℕ) → position t xs ≡ o → position_from t 0 xs ≡ o
from-zero t xs o e = sym (position_from-zero t xs) ∙ e

-- a name that stands nowhere before has its own place
place-fresh :
    (p : List ℕ → Bool) (i j : ℕ) (xs : List (List ℕ)) → j < length xs → list_any p (take j xs) ≡ false → p (get_or xs j []) ≡ true
    → position_from p i xs ≡ Some (i + j)
place-fresh p i j [] h f t = absurd (omega arith)
place-fresh p i zero (x ∷ xs) h f t = ap (λ b. cond b (Some i) (position_from p (i + 1) xs)) t ∙ ap Some (omega arith)
place-fresh p i (suc j) (x ∷ xs) h f t = by (p x) f (place-fresh p (i + 1) j xs (omega arith))
  where
    by :
        (b : Bool) → (b || list_any p (take j xs)) ≡ false
        → (list_any p (take j xs) ≡ false → p (get_or xs j []) ≡ true → position_from p (i + 1) xs ≡ Some (i + 1 + j))
        → cond b (Some i) (position_from p (i + 1) xs) ≡ Some (i + suc j)
    by true f more = absurd (true≢false f)
    by false f more = more f t ∙ ap Some (omega arith)

pub own-place :
    (xs : List (List ℕ)) (j : ℕ) → j < length xs → is_among (take j xs) (get_or xs j []) ≡ false → position (bytes_eq (get_or xs j [])) xs ≡ Some j
own-place xs j h f =
    position_from-zero (bytes_eq (get_or xs j [])) xs ∙ place-fresh (bytes_eq (get_or xs j [])) 0 j xs h f (bytes-self (get_or xs j [])) ∙ ap Some (omega arith)
