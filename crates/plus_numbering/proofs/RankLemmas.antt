-- The place of a list of objects among those that take one member of each of these lists: in mixed radix, the places
-- of the objects in their lists.
use Rattle.std.proofs.Common.{◌≡◌, ℕ, zero, suc, ◌+◌, ◌-◌, ◌*◌, ◌<◌, ◌≤◌, Bool, true, false, List, [], ◌∷◌, ◌++◌, ap, sym, refl, ◌∙◌, map, length, cond, not, ◌&&◌, nat_eq, nat_lt, arith, length-append, ⊎_elim}
use Rattle.std.specs.List.{position_or_len}
use Rattle.std.specs.Str.{bytes_eq}
use Rattle.std.proofs.lemmas.List.{length-map}
use Rattle.std.proofs.lemmas.Bool.{cases_lt}
use Rattle.std.proofs.lemmas.Bool.Decides.{Decides-ltb}
use Rattle.std.proofs.lemmas.Nat.{mul-add-lt}
use Rattle.plus_expansion.specs.Objects.{tuples}
use Rattle.plus_expansion.proofs.Places.{place-below, place-here, place-there}
use Rattle.plus_numbering.proofs.SizeLemmas.{blocks, length-tuples}

-- ---- a list of objects among those that begin alike

pub place-begun : (o x : ℕ) (os : List ℕ) (ts : List (List ℕ)) → nat_eq o x ≡ true → position_or_len (bytes_eq (o ∷ os)) (map (λ t. x ∷ t) ts) ≡ position_or_len (bytes_eq os) ts
place-begun o x os [] e = refl
place-begun o x os (t ∷ ts) e =
    ap (λ b. cond (not (b && bytes_eq os t)) (1 + position_or_len (bytes_eq (o ∷ os)) (map (λ u. x ∷ u) ts)) 0) e
    ∙ ap (λ n. cond (not (bytes_eq os t)) (1 + n) 0) (place-begun o x os ts e)

pub place-other : (o x : ℕ) (os : List ℕ) (ts : List (List ℕ)) → nat_eq o x ≡ false → position_or_len (bytes_eq (o ∷ os)) (map (λ t. x ∷ t) ts) ≡ length ts
place-other o x os [] e = refl
place-other o x os (t ∷ ts) e =
    let s : 1 + length ts ≡ length (t ∷ ts) = omega arith in
    ap (λ b. cond (not (b && bytes_eq os t)) (1 + position_or_len (bytes_eq (o ∷ os)) (map (λ u. x ∷ u) ts)) 0) e
    ∙ ap (λ n. 1 + n) (place-other o x os ts e) ∙ s

pub place-shorter : (x : ℕ) (ts : List (List ℕ)) → position_or_len (bytes_eq []) (map (λ t. x ∷ t) ts) ≡ length ts
place-shorter x [] = refl
place-shorter x (t ∷ ts) = let s : 1 + length ts ≡ length (t ∷ ts) = omega arith in ap (λ n. 1 + n) (place-shorter x ts) ∙ s

-- ---- and among those that begin with each of a list

-- where a block has no such list, it is behind the block
pub block-passed :
    (os : List ℕ) (x : ℕ) (xs : List ℕ) (ts : List (List ℕ)) → position_or_len (bytes_eq os) (map (λ t. x ∷ t) ts) ≡ length ts
    → position_or_len (bytes_eq os) (blocks ts (x ∷ xs)) ≡ length ts + position_or_len (bytes_eq os) (blocks ts xs)
block-passed os x xs ts e =
    let l : length (map (λ t. x ∷ t) ts) ≡ length ts = length-map ts (λ t. x ∷ t) in
    place-there (bytes_eq os) (map (λ t. x ∷ t) ts) (blocks ts xs) (e ∙ sym l) ∙ ap (λ n. n + position_or_len (bytes_eq os) (blocks ts xs)) l

-- the rest is among these, and the first object is at this place
pub place-block :
    (o : ℕ) (os xs : List ℕ) (ts : List (List ℕ)) → position_or_len (nat_eq o) xs < length xs → position_or_len (bytes_eq os) ts < length ts
    → position_or_len (bytes_eq (o ∷ os)) (blocks ts xs) ≡ position_or_len (nat_eq o) xs * length ts + position_or_len (bytes_eq os) ts
place-block o os [] ts h k = absurd (omega arith)
place-block o os (x ∷ xs) ts h k = by (nat_eq o x) refl h (place-block o os xs ts)
  where
    by :
        (b : Bool) → nat_eq o x ≡ b → cond (not b) (1 + position_or_len (nat_eq o) xs) 0 < length (x ∷ xs)
        → (position_or_len (nat_eq o) xs < length xs → position_or_len (bytes_eq os) ts < length ts
        → position_or_len (bytes_eq (o ∷ os)) (blocks ts xs) ≡ position_or_len (nat_eq o) xs * length ts + position_or_len (bytes_eq os) ts)
        → position_or_len (bytes_eq (o ∷ os)) (blocks ts (x ∷ xs)) ≡ cond (not b) (1 + position_or_len (nat_eq o) xs) 0 * length ts + position_or_len (bytes_eq os) ts
    by true w g more =
        let l : length (map (λ t. x ∷ t) ts) ≡ length ts = length-map ts (λ t. x ∷ t) in
        let e : position_or_len (bytes_eq (o ∷ os)) (map (λ t. x ∷ t) ts) ≡ position_or_len (bytes_eq os) ts = place-begun o x os ts w in
        let z : position_or_len (bytes_eq os) ts ≡ 0 * length ts + position_or_len (bytes_eq os) ts = omega arith in
        place-here (bytes_eq (o ∷ os)) (map (λ t. x ∷ t) ts) (blocks ts xs) (omega arith) ∙ e ∙ z
    by false w g more =
        let m : position_or_len (bytes_eq (o ∷ os)) (blocks ts xs) ≡ position_or_len (nat_eq o) xs * length ts + position_or_len (bytes_eq os) ts = more (omega arith) k in
        let s : length ts + (position_or_len (nat_eq o) xs * length ts + position_or_len (bytes_eq os) ts) ≡ (1 + position_or_len (nat_eq o) xs) * length ts + position_or_len (bytes_eq os) ts = omega arith in
        block-passed (o ∷ os) x xs ts (place-other o x os ts w) ∙ ap (λ n. length ts + n) m ∙ s

-- the first object is in none of the lists, or the rest is not among these: it is nowhere
pub nowhere-first :
    (o : ℕ) (os xs : List ℕ) (ts : List (List ℕ)) → position_or_len (nat_eq o) xs ≡ length xs → position_or_len (bytes_eq (o ∷ os)) (blocks ts xs) ≡ length (blocks ts xs)
nowhere-first o os [] ts h = refl
nowhere-first o os (x ∷ xs) ts h = by (nat_eq o x) refl h (nowhere-first o os xs ts)
  where
    by :
        (b : Bool) → nat_eq o x ≡ b → cond (not b) (1 + position_or_len (nat_eq o) xs) 0 ≡ length (x ∷ xs)
        → (position_or_len (nat_eq o) xs ≡ length xs → position_or_len (bytes_eq (o ∷ os)) (blocks ts xs) ≡ length (blocks ts xs))
        → position_or_len (bytes_eq (o ∷ os)) (blocks ts (x ∷ xs)) ≡ length (blocks ts (x ∷ xs))
    by true w g more = absurd (omega arith)
    by false w g more =
        let l : length (map (λ t. x ∷ t) ts) ≡ length ts = length-map ts (λ t. x ∷ t) in
        block-passed (o ∷ os) x xs ts (place-other o x os ts w) ∙ ap (λ n. length ts + n) (more (omega arith))
        ∙ ap (λ n. n + length (blocks ts xs)) (sym l) ∙ sym (length-append (map (λ t. x ∷ t) ts) (blocks ts xs))

pub nowhere-rest :
    (o : ℕ) (os xs : List ℕ) (ts : List (List ℕ)) → position_or_len (bytes_eq os) ts ≡ length ts → position_or_len (bytes_eq (o ∷ os)) (blocks ts xs) ≡ length (blocks ts xs)
nowhere-rest o os [] ts h = refl
nowhere-rest o os (x ∷ xs) ts h =
    let l : length (map (λ t. x ∷ t) ts) ≡ length ts = length-map ts (λ t. x ∷ t) in
    block-passed (o ∷ os) x xs ts (by (nat_eq o x) refl) ∙ ap (λ n. length ts + n) (nowhere-rest o os xs ts h)
    ∙ ap (λ n. n + length (blocks ts xs)) (sym l) ∙ sym (length-append (map (λ t. x ∷ t) ts) (blocks ts xs))
  where
    by : (b : Bool) → nat_eq o x ≡ b → position_or_len (bytes_eq (o ∷ os)) (map (λ t. x ∷ t) ts) ≡ length ts
    by true w = place-begun o x os ts w ∙ h
    by false w = place-other o x os ts w

pub nowhere-shorter : (xs : List ℕ) (ts : List (List ℕ)) → position_or_len (bytes_eq []) (blocks ts xs) ≡ length (blocks ts xs)
nowhere-shorter [] ts = refl
nowhere-shorter (x ∷ xs) ts =
    let l : length (map (λ t. x ∷ t) ts) ≡ length ts = length-map ts (λ t. x ∷ t) in
    block-passed [] x xs ts (place-shorter x ts) ∙ ap (λ n. length ts + n) (nowhere-shorter xs ts)
    ∙ ap (λ n. n + length (blocks ts xs)) (sym l) ∙ sym (length-append (map (λ t. x ∷ t) ts) (blocks ts xs))

-- ---- in all of them

-- as many objects as lists, or nowhere
pub nowhere-other : (xss : List (List ℕ)) (os : List ℕ) → (length os ≡ length xss → ⊥) → position_or_len (bytes_eq os) (tuples xss) ≡ length (tuples xss)
nowhere-other [] [] h = absurd (h refl)
nowhere-other [] (o ∷ os) h = refl
nowhere-other (xs ∷ rest) [] h = nowhere-shorter xs (tuples rest)
nowhere-other (xs ∷ rest) (o ∷ os) h = nowhere-rest o os xs (tuples rest) (nowhere-other rest os (λ e. h (ap suc e)))

-- the place of the whole, by that of a part; `size` where the part is at no place
abbrev pub placed : ℕ → ℕ → List (List ℕ) → List ℕ → ℕ
placed size rank xss os =
    cond (nat_lt (position_or_len (bytes_eq os) (tuples xss)) (length (tuples xss)))
    (rank * length (tuples xss) + position_or_len (bytes_eq os) (tuples xss)) size

pub lt-true : (a b : ℕ) → a < b → nat_lt a b ≡ true
lt-true a b h = (Decides-ltb a b).1 h

pub lt-false : (a b : ℕ) → b ≤ a → nat_lt a b ≡ false
lt-false a b h = by (nat_lt a b) refl
  where
    by : (x : Bool) → nat_lt a b ≡ x → x ≡ false
    by true w = let q : a < b = (Decides-ltb a b).0 w in absurd (omega arith)
    by false w = refl

pub placed-found : (size rank : ℕ) (xss : List (List ℕ)) (os : List ℕ) → position_or_len (bytes_eq os) (tuples xss) < length (tuples xss)
    → placed size rank xss os ≡ rank * length (tuples xss) + position_or_len (bytes_eq os) (tuples xss)
placed-found size rank xss os h =
    ap (λ b. cond b (rank * length (tuples xss) + position_or_len (bytes_eq os) (tuples xss)) size) (lt-true _ _ h)

pub placed-nowhere : (size rank : ℕ) (xss : List (List ℕ)) (os : List ℕ) → position_or_len (bytes_eq os) (tuples xss) ≡ length (tuples xss) → placed size rank xss os ≡ size
placed-nowhere size rank xss os h =
    ap (λ b. cond b (rank * length (tuples xss) + position_or_len (bytes_eq os) (tuples xss)) size)
    (lt-false (position_or_len (bytes_eq os) (tuples xss)) (length (tuples xss)) (omega arith))

-- one more object, which is at this place in its list
pub placed-more :
    (size rank i o : ℕ) (xs os : List ℕ) (rest : List (List ℕ)) → position_or_len (nat_eq o) xs ≡ i → i < length xs
    → placed size rank (xs ∷ rest) (o ∷ os) ≡ placed size (rank * length xs + i) rest os
placed-more size rank i o xs os rest e h = ⊎_elim below at (cases_lt (position_or_len (bytes_eq os) (tuples rest)) (length (tuples rest)))
  where
    below : position_or_len (bytes_eq os) (tuples rest) < length (tuples rest) → placed size rank (xs ∷ rest) (o ∷ os) ≡ placed size (rank * length xs + i) rest os
    below k =
        let n = length xs in
        let l = length (tuples rest) in
        let p = position_or_len (bytes_eq os) (tuples rest) in
        let whole : position_or_len (bytes_eq (o ∷ os)) (tuples (xs ∷ rest)) ≡ i * l + p =
        place-block o os xs (tuples rest) (omega arith) k ∙ ap (λ j. j * l + p) e in
        let many : length (tuples (xs ∷ rest)) ≡ n * l = length-tuples xs rest in
        let lt : i * l + p < l * n = mul-add-lt i l p n h k in
        let s : rank * (n * l) + (i * l + p) ≡ (rank * n + i) * l + p = omega arith in
        placed-found size rank (xs ∷ rest) (o ∷ os) (omega arith)
        ∙ ap (λ m. rank * m + position_or_len (bytes_eq (o ∷ os)) (tuples (xs ∷ rest))) many ∙ ap (λ m. rank * (n * l) + m) whole ∙ s
        ∙ sym (placed-found size (rank * n + i) rest os k)

    at : length (tuples rest) ≤ position_or_len (bytes_eq os) (tuples rest) → placed size rank (xs ∷ rest) (o ∷ os) ≡ placed size (rank * length xs + i) rest os
    at k =
        let b = place-below (bytes_eq os) (tuples rest) in
        let q : position_or_len (bytes_eq os) (tuples rest) ≡ length (tuples rest) = omega arith in
        placed-nowhere size rank (xs ∷ rest) (o ∷ os) (nowhere-rest o os xs (tuples rest) q) ∙ sym (placed-nowhere size (rank * length xs + i) rest os q)

-- one more object, which is not in its list
pub placed-lost :
    (size rank o : ℕ) (xs os : List ℕ) (rest : List (List ℕ)) → position_or_len (nat_eq o) xs ≡ length xs → placed size rank (xs ∷ rest) (o ∷ os) ≡ size
placed-lost size rank o xs os rest e = placed-nowhere size rank (xs ∷ rest) (o ∷ os) (nowhere-first o os xs (tuples rest) e)

-- at first, and at last
pub placed-start : (size : ℕ) (xss : List (List ℕ)) (os : List ℕ) → size ≡ length (tuples xss) → position_or_len (bytes_eq os) (tuples xss) ≡ placed size 0 xss os
placed-start size xss os e = ⊎_elim below at (cases_lt (position_or_len (bytes_eq os) (tuples xss)) (length (tuples xss)))
  where
    below : position_or_len (bytes_eq os) (tuples xss) < length (tuples xss) → position_or_len (bytes_eq os) (tuples xss) ≡ placed size 0 xss os
    below k =
        let s : position_or_len (bytes_eq os) (tuples xss) ≡ 0 * length (tuples xss) + position_or_len (bytes_eq os) (tuples xss) = omega arith in
        s ∙ sym (placed-found size 0 xss os k)

    at : length (tuples xss) ≤ position_or_len (bytes_eq os) (tuples xss) → position_or_len (bytes_eq os) (tuples xss) ≡ placed size 0 xss os
    at k =
        let b = place-below (bytes_eq os) (tuples xss) in
        let q : position_or_len (bytes_eq os) (tuples xss) ≡ length (tuples xss) = omega arith in
        q ∙ sym e ∙ sym (placed-nowhere size 0 xss os q)

pub placed-end : (size rank : ℕ) → placed size rank [] [] ≡ rank
placed-end size rank = let s : rank * 1 + 0 ≡ rank = omega arith in placed-found size rank [] [] (omega arith) ∙ s

-- ---- that the place so far is below the number of lists

pub some-more : (n l : ℕ) → 0 < n * l → 0 < l
some-more n zero h = absurd (omega arith)
some-more n (suc l) h = omega arith

pub few-more : (rank n p l size : ℕ) → p < n → (rank + 1) * (n * l) ≤ size → (rank * n + p + 1) * l ≤ size
few-more rank n p l size h k =
    let d = n - p - 1 in
    let e : n ≡ p + 1 + d = omega arith in
    let f : n * l ≡ (p + 1 + d) * l = ap (λ z. z * l) e in
    omega arith

pub few-fits : (r l size : ℕ) → 0 < l → r * l ≤ size → r ≤ size
few-fits r zero size h k = absurd (omega arith)
few-fits r (suc l) size h k = omega arith
