-- How many lists take one member of each of these, and how many ground atoms or fluents there are.
use Rattle.std.proofs.Common.{◌≡◌, ℕ, zero, suc, ◌+◌, ◌*◌, ◌<◌, ◌≤◌, min, List, [], ◌∷◌, ◌++◌, ap, sym, refl, ◌∙◌, map, length, drop, get_or, drop-cons, arith, length-append, ⊎_elim}
use Rattle.std.specs.List.{flat_map}
use Rattle.std.proofs.lemmas.List.{length-map}
use Rattle.std.proofs.lemmas.Bool.{cases_lt}
use Rattle.plus_tree.specs.declared.terms.TypedName.{TypedName}
use Rattle.plus_tree.specs.declared.trees.Head.{Head}
use Rattle.plus_types.specs.Faults.{Context}
use Rattle.plus_expansion.specs.Objects.{members_of, extents_of, tuples}
use Rattle.plus_expansion.specs.Numbers.{ground_names_from}
use Rattle.plus_numbering.specs.Tables.{starts_from}

-- each first member, with each of these
abbrev pub blocks : List (List ℕ) → List ℕ → List (List ℕ)
blocks ts xs = flat_map (λ x. map (λ t. x ∷ t) ts) xs

pub length-blocks : (ts : List (List ℕ)) (xs : List ℕ) → length (blocks ts xs) ≡ length xs * length ts
length-blocks ts [] = let z : 0 ≡ 0 * length ts = omega arith in z
length-blocks ts (x ∷ xs) =
    let more : length (blocks ts xs) ≡ length xs * length ts = length-blocks ts xs in
    let here : length (map (λ t. x ∷ t) ts) ≡ length ts = length-map ts (λ t. x ∷ t) in
    let both : length (map (λ t. x ∷ t) ts ++ blocks ts xs) ≡ length (map (λ t. x ∷ t) ts) + length (blocks ts xs) = length-append (map (λ t. x ∷ t) ts) (blocks ts xs) in
    let s : suc (length xs) * length ts ≡ length ts + length xs * length ts = omega arith in
    both ∙ ap (λ n. n + length (blocks ts xs)) here ∙ ap (λ n. length ts + n) more ∙ sym s

pub length-tuples : (xs : List ℕ) (rest : List (List ℕ)) → length (tuples (xs ∷ rest)) ≡ length xs * length (tuples rest)
length-tuples xs rest = length-blocks (tuples rest) xs

-- one more parameter of a list that is walked
pub extents-step : (c : Context) (params : List TypedName) (i : ℕ) (p : TypedName) → i < length params → p ≡ get_or params i p
    → extents_of c (drop i params) ≡ members_of c p.kind.name ∷ extents_of c (drop (i + 1) params)
extents-step c params i p h m =
    let d : drop i params ≡ p ∷ drop (suc i) params = drop-cons params i p h ∙ ap (λ y. y ∷ drop (suc i) params) (sym m) in
    let s : suc i ≡ i + 1 = omega arith in
    ap (extents_of c) d ∙ ap (λ j. members_of c p.kind.name ∷ extents_of c (drop j params)) s

pub size-step : (c : Context) (params : List TypedName) (i : ℕ) (p : TypedName) → i < length params → p ≡ get_or params i p
    → length (tuples (extents_of c (drop i params))) ≡ length (members_of c p.kind.name) * length (tuples (extents_of c (drop (i + 1) params)))
size-step c params i p h m =
    ap (λ xss. length (tuples xss)) (extents-step c params i p h m) ∙ length-tuples (members_of c p.kind.name) (extents_of c (drop (i + 1) params))

-- ---- numbers that are held at a limit

pub held : (x m r : ℕ) → min (min x m * r) m ≡ min (x * r) m
held x m zero = omega arith
held x m (suc r) = ⊎_elim low high (cases_lt x m)
  where
    low : x < m → min (min x m * suc r) m ≡ min (x * suc r) m
    low h = let e : min x m ≡ x = omega arith in ap (λ y. min (y * suc r) m) e

    high : m ≤ x → min (min x m * suc r) m ≡ min (x * suc r) m
    high h =
        let e : min x m ≡ m = omega arith in
        let a : m * suc r ≡ m * r + m = omega arith in
        let b : x * suc r ≡ x * r + x = omega arith in
        let s : min (m * suc r) m ≡ min (x * suc r) m = omega arith in
        ap (λ y. min (y * suc r) m) e ∙ s

pub held-twice : (x b m : ℕ) → m ≤ b → min (min x b) m ≡ min x m
held-twice x b m h = omega arith

-- one more factor
pub held-more : (n s r b m : ℕ) → m ≤ b → min (min (min (n * s) b) m * r) m ≡ min (s * (n * r)) m
held-more n s r b m h =
    let e : n * s * r ≡ s * (n * r) = omega arith in
    ap (λ y. min (y * r) m) (held-twice (n * s) b m h) ∙ held (n * s) m r ∙ ap (λ y. min y m) e

-- ---- how many there are

abbrev pub count : Context → List Head → ℕ
count c [] = 0
count c (h ∷ hs) = length (tuples (extents_of c h.params)) + count c hs

pub length-ground : (c : Context) (n : ℕ) (heads : List Head) → length (ground_names_from c n heads) ≡ count c heads
length-ground c n [] = refl
length-ground c n (h ∷ hs) =
    length-append (map (λ t. (n, t)) (tuples (extents_of c h.params))) (ground_names_from c (suc n) hs)
    ∙ ap (λ k. k + length (ground_names_from c (suc n) hs)) (length-map (tuples (extents_of c h.params)) (λ t. (n, t)))
    ∙ ap (λ k. length (tuples (extents_of c h.params)) + k) (length-ground c (suc n) hs)

pub heads-step : (heads : List Head) (i : ℕ) (h : Head) → i < length heads → h ≡ get_or heads i h → drop i heads ≡ h ∷ drop (i + 1) heads
heads-step heads i h l m =
    let s : suc i ≡ i + 1 = omega arith in
    drop-cons heads i h l ∙ ap (λ y. y ∷ drop (suc i) heads) (sym m) ∙ ap (λ j. h ∷ drop j heads) s

-- ---- where those of each head begin

pub length-starts : (c : Context) (n : ℕ) (heads : List Head) → length (starts_from c n heads) ≡ length heads + 1
length-starts c n [] = omega arith
length-starts c n (h ∷ hs) = let more : length (starts_from c (n + length (tuples (extents_of c h.params))) hs) ≡ length hs + 1 = length-starts c (n + length (tuples (extents_of c h.params))) hs in omega arith

pub starts-last : (c : Context) (n : ℕ) (heads : List Head) → get_or (starts_from c n heads) (length heads) 0 ≡ n + count c heads
starts-last c n [] = let z : n ≡ n + 0 = omega arith in z
starts-last c n (h ∷ hs) =
    let k = length (tuples (extents_of c h.params)) in
    let s : n + k + count c hs ≡ n + (k + count c hs) = omega arith in
    starts-last c (n + k) hs ∙ s

pub starts-first : (c : Context) (n : ℕ) (heads : List Head) → get_or (starts_from c n heads) 0 0 ≡ n
starts-first c n [] = refl
starts-first c n (h ∷ hs) = refl

pub starts-step :
    (c : Context) (n : ℕ) (heads : List Head) (i : ℕ) (d : Head) → i < length heads
    → get_or (starts_from c n heads) (i + 1) 0 ≡ get_or (starts_from c n heads) i 0 + length (tuples (extents_of c (get_or heads i d).params))
starts-step c n [] i d h = absurd (omega arith)
starts-step c n (x ∷ hs) zero d h = starts-first c (n + length (tuples (extents_of c x.params))) hs
starts-step c n (x ∷ hs) (suc i) d h =
    let s : suc i + 1 ≡ suc (i + 1) = omega arith in
    ap (λ j. get_or (starts_from c n (x ∷ hs)) j 0) s ∙ starts-step c (n + length (tuples (extents_of c x.params))) hs i d (omega arith)
