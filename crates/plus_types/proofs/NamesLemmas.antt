-- Searching a table of names is searching the list of their bytes.
use Rattle.std.proofs.Common.{◌≡◌, ℕ, zero, suc, ◌+◌, ◌<◌, ◌≤◌, Bool, true, false, List, [], ◌∷◌, ap, sym, refl, ◌∙◌, map, length, cond, position, ◌||◌, drop, drop-cons, get_or, arith, ◌&&◌, not, None, Some, nat_lt, add-one}
use Rattle.std.specs.Str.{bytes_eq}
use Rattle.std.specs.Cmp.Lexicographic.{pointwise}
use Rattle.plus_types.specs.Faults.{same_names}
use Rattle.std.specs.List.{list_any, prefix_len, position_or_len}
use Rattle.std.proofs.lemmas.List.{length-map}
use Rattle.std.proofs.lemmas.Bool.Decides.{nat_tests}

pub list_any-map : {X Y : Type 0} (p : Y → Bool) (f : X → Y) (xs : List X) → list_any p (map f xs) ≡ list_any (λ x. p (f x)) xs
list_any-map p f [] = refl
list_any-map p f (x ∷ xs) = ap (λ b. p (f x) || b) (list_any-map p f xs)

pub prefix_len-map : {X Y : Type 0} (p : Y → Bool) (f : X → Y) (xs : List X) → prefix_len p (map f xs) ≡ prefix_len (λ x. p (f x)) xs
prefix_len-map p f [] = refl
prefix_len-map p f (x ∷ xs) = ap (λ n. cond (p (f x)) (1 + n) 0) (prefix_len-map p f xs)

pub position-map : {X Y : Type 0} (p : Y → Bool) (f : X → Y) (xs : List X) → position (λ x. p (f x)) xs ≡ position p (map f xs)
position-map p f xs = simp (prefix_len-map, length-map)

-- the member at the index passes
pub any-found : {X : Type 0} (p : X → Bool) (xs : List X) (i : ℕ) (x : X) → i < length xs → x ≡ get_or xs i x → p x ≡ true → list_any p (drop i xs) ≡ true
any-found p xs i x h m e = ap (list_any p) (drop-cons xs i x h) ∙ ap (λ y. p y || list_any p (drop (suc i) xs)) (sym m) ∙ ap (λ b. b || list_any p (drop (suc i) xs)) e

-- no member is left
pub any-passed : {X : Type 0} (p : X → Bool) (xs : List X) (i : ℕ) → length xs ≤ i → list_any p (drop i xs) ≡ false
any-passed p [] zero h = refl
any-passed p [] (suc i) h = refl
any-passed p (x ∷ xs) zero h = absurd (omega arith)
any-passed p (x ∷ xs) (suc i) h = any-passed p xs i (omega arith)

-- two fluents are the same where their names are
pub same-pointwise : (xs ys : List (List ℕ)) → pointwise bytes_eq xs ys ≡ same_names xs ys
same-pointwise [] [] = refl
same-pointwise [] (y ∷ ys) = refl
same-pointwise (x ∷ xs) [] = refl
same-pointwise (x ∷ xs) (y ∷ ys) = ap (λ b. bytes_eq x y && b) (same-pointwise xs ys)

pub any-same :
    (k : List (List ℕ)) (keys : List (List (List ℕ)))
    → list_any (pointwise bytes_eq k) keys ≡ list_any (same_names k) keys
any-same k [] = refl
any-same k (y ∷ ys) =
    ap (λ b. b || list_any (pointwise bytes_eq k) ys) (same-pointwise k y)
    ∙ ap (λ b. same_names k y || b) (any-same k ys)

-- none of the members so far passes, and neither does this one
pub none-yet :
    {X : Type 0} (p : X → Bool) (xs : List X) (i : ℕ) (x : X)
    → i < length xs → x ≡ get_or xs i x → p x ≡ false
    → position_or_len p xs ≡ i + position_or_len p (drop i xs)
    → position_or_len p xs ≡ (i + 1) + position_or_len p (drop (i + 1) xs)
none-yet p xs i x h m e s =
    let rest = position_or_len p (drop (suc i) xs) in
    let step : position_or_len p (drop i xs) ≡ 1 + rest =
    ap (position_or_len p) (drop-cons xs i x h) ∙ ap (λ y. cond (not (p y)) (1 + rest) 0) (sym m) ∙ ap (λ b. cond (not b) (1 + rest) 0) e in
    rw add-one (omega (arith, s, step))

-- none of the members so far passes, and this one does
pub first-found :
    {X : Type 0} (p : X → Bool) (xs : List X) (i : ℕ) (x : X)
    → i < length xs → x ≡ get_or xs i x → p x ≡ true
    → position_or_len p xs ≡ i + position_or_len p (drop i xs)
    → Some i ≡ position p xs
first-found p xs i x h m e s =
    let rest = position_or_len p (drop (suc i) xs) in
    let step : position_or_len p (drop i xs) ≡ 0 =
    ap (position_or_len p) (drop-cons xs i x h) ∙ ap (λ y. cond (not (p y)) (1 + rest) 0) (sym m) ∙ ap (λ b. cond (not b) (1 + rest) 0) e in
    let at : position_or_len p xs ≡ i = omega (arith, s, step) in
    let within : nat_lt i (length xs) ≡ true = grind (arith, nat_tests) in
    sym (ap (λ n. cond (nat_lt n (length xs)) (Some n) None) at ∙ ap (λ b. cond b (Some i) None) within)

-- no member passes
pub none-found :
    {X : Type 0} (p : X → Bool) (xs : List X) (i : ℕ)
    → length xs ≤ i → position_or_len p xs ≡ i + position_or_len p (drop i xs)
    → None ≡ position p xs
none-found p xs i h s =
    let past : length xs ≤ position_or_len p xs = omega (arith, h, s) in
    let beyond : nat_lt (position_or_len p xs) (length xs) ≡ false = grind (arith, nat_tests) in
    sym (ap (λ b. cond b (Some (position_or_len p xs)) None) beyond)
