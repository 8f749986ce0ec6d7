-- First places in lists, and in lists of lists.
use Rattle.std.proofs.Common.{◌≡◌, ℕ, ◌+◌, ◌<◌, ◌≤◌, Bool, true, false, List, [], ◌∷◌, ◌++◌, ap, refl, ◌∙◌, map, length, cond, not, ◌||◌, ◌&&◌, nat_eq, arith}
use Rattle.std.specs.List.{list_any, position_or_len, flat_map}
use Rattle.std.specs.Str.{bytes_eq}
use Rattle.std.proofs.lemmas.List.Folds.{list_any-append}
use Rattle.std.proofs.lemmas.Bool.Decides.{Decides-eqb}
use Rattle.plus_expansion.specs.Objects.{tuples}

pub same-number : (n : ℕ) → nat_eq n n ≡ true
same-number n = (Decides-eqb n n).1 refl

-- what is somewhere has a place
pub any-within : {X : Type 0} (p : X → Bool) (xs : List X) → list_any p xs ≡ true → position_or_len p xs < length xs
any-within p [] e = cc
any-within p (x ∷ xs) e = by (p x) e (any-within p xs)
  where
    by :
        (b : Bool) → (b || list_any p xs) ≡ true → (list_any p xs ≡ true → position_or_len p xs < length xs)
        → cond (not b) (1 + position_or_len p xs) 0 < length (x ∷ xs)
    by true e more = omega arith
    by false e more = let q : position_or_len p xs < length xs = more e in omega arith

-- ---- first places in two lists, one after the other

pub place-below : {X : Type 0} (p : X → Bool) (xs : List X) → position_or_len p xs ≤ length xs
place-below p [] = omega arith
place-below p (x ∷ xs) = by (p x) (place-below p xs)
  where
    by : (b : Bool) → position_or_len p xs ≤ length xs → cond (not b) (1 + position_or_len p xs) 0 ≤ length (x ∷ xs)
    by true more = omega arith
    by false more = omega arith

pub place-here : {X : Type 0} (p : X → Bool) (xs ys : List X) → position_or_len p xs < length xs → position_or_len p (xs ++ ys) ≡ position_or_len p xs
place-here p [] ys h = absurd (omega arith)
place-here p (x ∷ xs) ys h = by (p x) h (place-here p xs ys)
  where
    by :
        (b : Bool) → cond (not b) (1 + position_or_len p xs) 0 < length (x ∷ xs) → (position_or_len p xs < length xs → position_or_len p (xs ++ ys) ≡ position_or_len p xs)
        → cond (not b) (1 + position_or_len p (xs ++ ys)) 0 ≡ cond (not b) (1 + position_or_len p xs) 0
    by true h more = refl
    by false h more = ap (λ n. 1 + n) (more (omega arith))

pub place-there : {X : Type 0} (p : X → Bool) (xs ys : List X) → position_or_len p xs ≡ length xs → position_or_len p (xs ++ ys) ≡ length xs + position_or_len p ys
place-there p [] ys h = let z : position_or_len p ys ≡ 0 + position_or_len p ys = omega arith in z
place-there p (x ∷ xs) ys h = by (p x) h (place-there p xs ys)
  where
    by :
        (b : Bool) → cond (not b) (1 + position_or_len p xs) 0 ≡ length (x ∷ xs) → (position_or_len p xs ≡ length xs → position_or_len p (xs ++ ys) ≡ length xs + position_or_len p ys)
        → cond (not b) (1 + position_or_len p (xs ++ ys)) 0 ≡ length (x ∷ xs) + position_or_len p ys
    by true h more = absurd (omega arith)
    by false h more = let q : position_or_len p (xs ++ ys) ≡ length xs + position_or_len p ys = more (omega arith) in omega arith

-- ---- lists of objects

-- as many objects as lists, and each in its list
abbrev pub are_members : List (List ℕ) → List ℕ → Bool
are_members [] [] = true
are_members (xs ∷ rest) (o ∷ os) = list_any (nat_eq o) xs && are_members rest os
are_members _ _ = false

-- a list of objects begins with one
pub any-begun : (o x : ℕ) (os : List ℕ) (ts : List (List ℕ)) → list_any (bytes_eq (o ∷ os)) (map (λ t. x ∷ t) ts) ≡ (nat_eq o x && list_any (bytes_eq os) ts)
any-begun o x os [] = by (nat_eq o x)
  where
    by : (b : Bool) → false ≡ (b && false)
    by true = refl
    by false = refl
any-begun o x os (t ∷ ts) = ap (λ b. (nat_eq o x && bytes_eq os t) || b) (any-begun o x os ts) ∙ by (nat_eq o x)
  where
    by : (b : Bool) → ((b && bytes_eq os t) || (b && list_any (bytes_eq os) ts)) ≡ (b && (bytes_eq os t || list_any (bytes_eq os) ts))
    by true = refl
    by false = refl

pub any-blocks :
    (o : ℕ) (os xs : List ℕ) (ts : List (List ℕ))
    → list_any (bytes_eq (o ∷ os)) (flat_map (λ x. map (λ t. x ∷ t) ts) xs) ≡ (list_any (nat_eq o) xs && list_any (bytes_eq os) ts)
any-blocks o os [] ts = refl
any-blocks o os (x ∷ xs) ts =
    list_any-append (bytes_eq (o ∷ os)) (map (λ t. x ∷ t) ts) (flat_map (λ y. map (λ t. y ∷ t) ts) xs)
    ∙ ap (λ b. b || list_any (bytes_eq (o ∷ os)) (flat_map (λ y. map (λ t. y ∷ t) ts) xs)) (any-begun o x os ts)
    ∙ ap (λ b. (nat_eq o x && list_any (bytes_eq os) ts) || b) (any-blocks o os xs ts)
    ∙ by (nat_eq o x) (list_any (nat_eq o) xs) (list_any (bytes_eq os) ts)
  where
    by : (a b d : Bool) → ((a && d) || (b && d)) ≡ ((a || b) && d)
    by true true true = refl
    by true true false = refl
    by true false true = refl
    by true false false = refl
    by false b d = refl

pub none-blocks : (xs : List ℕ) (ts : List (List ℕ)) → list_any (bytes_eq []) (flat_map (λ x. map (λ t. x ∷ t) ts) xs) ≡ false
none-blocks [] ts = refl
none-blocks (x ∷ xs) ts =
    list_any-append (bytes_eq []) (map (λ t. x ∷ t) ts) (flat_map (λ y. map (λ t. y ∷ t) ts) xs)
    ∙ ap (λ b. b || list_any (bytes_eq []) (flat_map (λ y. map (λ t. y ∷ t) ts) xs)) (begun ts) ∙ none-blocks xs ts
  where
    begun : (us : List (List ℕ)) → list_any (bytes_eq []) (map (λ t. x ∷ t) us) ≡ false
    begun [] = refl
    begun (u ∷ us) = begun us

-- a list of objects is among those that take one of each list, where each is in its list
pub any-tuple : (xss : List (List ℕ)) (os : List ℕ) → list_any (bytes_eq os) (tuples xss) ≡ are_members xss os
any-tuple [] [] = refl
any-tuple [] (o ∷ os) = refl
any-tuple (xs ∷ rest) [] = none-blocks xs (tuples rest)
any-tuple (xs ∷ rest) (o ∷ os) = any-blocks o os xs (tuples rest) ∙ ap (λ b. list_any (nat_eq o) xs && b) (any-tuple rest os)
