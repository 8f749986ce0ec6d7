-- The first place of a ground atom or fluent among those of one predicate or function, and among those of others.
use Rattle.std.proofs.Common.{◌≡◌, ℕ, suc, ◌+◌, ◌<◌, List, [], ◌∷◌, ap, sym, refl, ◌∙◌, map, length, cond, not, ◌&&◌, arith, length-append}
use Rattle.std.specs.List.{position_or_len}
use Rattle.std.specs.Str.{bytes_eq}
use Rattle.plus_tree.specs.declared.trees.Head.{Head}
use Rattle.plus_types.specs.Faults.{Context}
use Rattle.plus_expansion.specs.Objects.{extents_of, tuples}
use Rattle.plus_expansion.specs.Numbers.{GroundName, ground_names_from, head_names, is_same}
use Rattle.plus_expansion.proofs.Places.{same-number, place-there}
use Rattle.plus_expansion.proofs.ObjectsLemmas.{other-number}

-- as many names as heads
pub length-names : (heads : List Head) → length (head_names heads) ≡ length heads
length-names [] = refl
length-names (h ∷ hs) = ap suc (length-names hs)

-- ---- among the ground names of one head

abbrev pub own : ℕ → List (List ℕ) → List GroundName
own n ts = map (λ t. (n, t)) ts

pub length-own : (n : ℕ) (ts : List (List ℕ)) → length (own n ts) ≡ length ts
length-own n [] = refl
length-own n (t ∷ ts) = ap suc (length-own n ts)

pub ground-here : (k : ℕ) (objects : List ℕ) (ts : List (List ℕ)) → position_or_len (is_same (k, objects)) (own k ts) ≡ position_or_len (bytes_eq objects) ts
ground-here k objects [] = refl
ground-here k objects (t ∷ ts) =
    ap (λ b. cond (not (b && bytes_eq objects t)) (1 + position_or_len (is_same (k, objects)) (own k ts)) 0) (same-number k)
    ∙ ap (λ n. cond (not (bytes_eq objects t)) (1 + n) 0) (ground-here k objects ts)

pub ground-other : (k j : ℕ) (objects : List ℕ) (ts : List (List ℕ)) → (k ≡ j → ⊥) → position_or_len (is_same (k, objects)) (own j ts) ≡ length (own j ts)
ground-other k j objects [] h = refl
ground-other k j objects (t ∷ ts) h =
    let more : position_or_len (is_same (k, objects)) (own j ts) ≡ length (own j ts) = ground-other k j objects ts h in
    let s : 1 + position_or_len (is_same (k, objects)) (own j ts) ≡ length (own j (t ∷ ts)) = omega arith in
    ap (λ b. cond (not (b && bytes_eq objects t)) (1 + position_or_len (is_same (k, objects)) (own j ts)) 0) (other-number k j h) ∙ s

-- a head before those of a list, or after them, has none there
pub ground-none : (c : Context) (n k : ℕ) (heads : List Head) (objects : List ℕ) → ((i : ℕ) → i < length heads → k ≡ n + i → ⊥)
    → position_or_len (is_same (k, objects)) (ground_names_from c n heads) ≡ length (ground_names_from c n heads)
ground-none c n k [] objects h = refl
ground-none c n k (x ∷ xs) objects h =
    let mine : List GroundName = own n (tuples (extents_of c x.params)) in
    let later = ground_names_from c (suc n) xs in
    let here : position_or_len (is_same (k, objects)) mine ≡ length mine = ground-other k n objects (tuples (extents_of c x.params)) (λ e. h 0 (omega arith) (omega arith)) in
    let more : position_or_len (is_same (k, objects)) later ≡ length later = ground-none c (suc n) k xs objects (λ i l e. h (suc i) (omega arith) (omega arith)) in
    place-there (is_same (k, objects)) mine later here ∙ ap (λ m. length mine + m) more ∙ sym (length-append mine later)
