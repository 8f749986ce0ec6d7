-- The number of a ground atom or fluent: where those of its head begin, and its place among these.
use Rattle.std.proofs.Common.{◌≡◌, ℕ, zero, suc, ◌+◌, ◌<◌, ◌≤◌, Bool, true, false, List, [], ◌∷◌, ◌++◌, ap, sym, refl, ◌∙◌, map, length, cond, not, ◌&&◌, nat_lt, get_or, subst, Some, None, position, arith, length-append}
use Rattle.std.specs.List.{position_or_len}
use Rattle.std.specs.Str.{bytes_eq}
use Rattle.std.proofs.lemmas.Bool.Decides.{Decides-ltb}
use Rattle.plus_tree.specs.declared.trees.Head.{Head}
use Rattle.plus_types.specs.Faults.{Context}
use Rattle.plus_expansion.specs.Objects.{extents_of, tuples}
use Rattle.plus_expansion.specs.Numbers.{GroundName, ground_names_from, ground_names, head_names, is_same, number_of}
use Rattle.plus_numbering.specs.Tables.{starts_from}
use Rattle.plus_expansion.proofs.Places.{same-number, place-below, place-here, place-there}
use Rattle.plus_expansion.proofs.ObjectsLemmas.{other-number}
use Rattle.plus_numbering.proofs.SizeLemmas.{count, length-ground, starts-last, starts-step}
use Rattle.plus_expansion.proofs.GroundNames.{own, length-own, ground-here, ground-other, ground-none, length-names}

-- ---- a first place, if there is one

pub position-some : {X : Type 0} (p : X → Bool) (xs : List X) (i : ℕ) → position p xs ≡ Some i → position_or_len p xs ≡ i
position-some p xs i e = by (nat_lt (position_or_len p xs) (length xs)) e
  where
    by : (b : Bool) → cond b (Some (position_or_len p xs)) None ≡ Some i → position_or_len p xs ≡ i
    by true e = cc
    by false e = cc

pub position-none : {X : Type 0} (p : X → Bool) (xs : List X) → position p xs ≡ None → position_or_len p xs ≡ length xs
position-none p xs e = by (nat_lt (position_or_len p xs) (length xs)) refl e
  where
    by : (b : Bool) → nat_lt (position_or_len p xs) (length xs) ≡ b → cond b (Some (position_or_len p xs)) None ≡ None → position_or_len p xs ≡ length xs
    by true w e = cc
    by false w e =
        let low = place-below p xs in
        let high : position_or_len p xs < length xs → ⊥ = λ h. let t : nat_lt (position_or_len p xs) (length xs) ≡ true = (Decides-ltb (position_or_len p xs) (length xs)).1 h in cc in
        omega (arith, high)

-- ---- among the ground names of a list of heads

-- the objects are among those of the head: it is so far after the start of the head
pub ground-found :
    (c : Context) (n k m a : ℕ) (heads : List Head) (d : Head) (objects : List ℕ) → m < length heads → k ≡ n + m
    → position_or_len (bytes_eq objects) (tuples (extents_of c (get_or heads m d).params)) < length (tuples (extents_of c (get_or heads m d).params))
    → a + position_or_len (is_same (k, objects)) (ground_names_from c n heads)
    ≡ get_or (starts_from c a heads) m 0 + position_or_len (bytes_eq objects) (tuples (extents_of c (get_or heads m d).params))
ground-found c n k m a [] d objects h e f = absurd (omega arith)
ground-found c n k zero a (x ∷ xs) d objects h e f =
    let ts = tuples (extents_of c x.params) in
    let same : k ≡ n = omega arith in
    let here : position_or_len (is_same (k, objects)) (own n ts) ≡ position_or_len (bytes_eq objects) ts =
    ap (λ j. position_or_len (is_same (k, objects)) (own j ts)) (sym same) ∙ ground-here k objects ts in
    let long : length (own n ts) ≡ length ts = length-own n ts in
    ap (λ j. a + j) (place-here (is_same (k, objects)) (own n ts) (ground_names_from c (suc n) xs) (omega arith) ∙ here)
ground-found c n k (suc m) a (x ∷ xs) d objects h e f =
    let ts = tuples (extents_of c x.params) in
    let mine : List GroundName = own n ts in
    let later = ground_names_from c (suc n) xs in
    let ne : k ≡ n → ⊥ = λ q. absurd (omega arith) in
    let here : position_or_len (is_same (k, objects)) mine ≡ length mine = ground-other k n objects ts ne in
    let long : length mine ≡ length ts = length-own n ts in
    let whole : position_or_len (is_same (k, objects)) (mine ++ later) ≡ length mine + position_or_len (is_same (k, objects)) later = place-there (is_same (k, objects)) mine later here in
    let s : a + (length ts + position_or_len (is_same (k, objects)) later) ≡ a + length ts + position_or_len (is_same (k, objects)) later = omega arith in
    ap (λ j. a + j) (whole ∙ ap (λ j. j + position_or_len (is_same (k, objects)) later) long) ∙ s
    ∙ ground-found c (suc n) k m (a + length ts) xs d objects (omega arith) (omega arith) f

-- the objects are not among those of the head: it is nowhere
pub ground-nowhere :
    (c : Context) (n k m : ℕ) (heads : List Head) (d : Head) (objects : List ℕ) → m < length heads → k ≡ n + m
    → position_or_len (bytes_eq objects) (tuples (extents_of c (get_or heads m d).params)) ≡ length (tuples (extents_of c (get_or heads m d).params))
    → position_or_len (is_same (k, objects)) (ground_names_from c n heads) ≡ length (ground_names_from c n heads)
ground-nowhere c n k m [] d objects h e f = absurd (omega arith)
ground-nowhere c n k zero (x ∷ xs) d objects h e f =
    let ts = tuples (extents_of c x.params) in
    let mine : List GroundName = own n ts in
    let later = ground_names_from c (suc n) xs in
    let same : k ≡ n = omega arith in
    let here : position_or_len (is_same (k, objects)) mine ≡ length mine =
    ap (λ j. position_or_len (is_same (k, objects)) (own j ts)) (sym same) ∙ ground-here k objects ts ∙ f ∙ sym (length-own n ts) in
    let more : position_or_len (is_same (k, objects)) later ≡ length later = ground-none c (suc n) k xs objects (λ i l q. absurd (omega arith)) in
    place-there (is_same (k, objects)) mine later here ∙ ap (λ j. length mine + j) more ∙ sym (length-append mine later)
ground-nowhere c n k (suc m) (x ∷ xs) d objects h e f =
    let ts = tuples (extents_of c x.params) in
    let mine : List GroundName = own n ts in
    let later = ground_names_from c (suc n) xs in
    let ne : k ≡ n → ⊥ = λ q. absurd (omega arith) in
    let here : position_or_len (is_same (k, objects)) mine ≡ length mine = ground-other k n objects ts ne in
    let more : position_or_len (is_same (k, objects)) later ≡ length later = ground-nowhere c (suc n) k m xs d objects (omega arith) (omega arith) f in
    place-there (is_same (k, objects)) mine later here ∙ ap (λ j. length mine + j) more ∙ sym (length-append mine later)

-- ---- by the table of starts

pub all-starts : (c : Context) (heads : List Head) (starts : List ℕ) → starts ≡ starts_from c 0 heads → get_or starts (length heads) 0 ≡ length (ground_names c heads)
all-starts c heads starts e =
    let s : 0 + count c heads ≡ count c heads = omega arith in
    ap (λ ns. get_or ns (length heads) 0) e ∙ starts-last c 0 heads ∙ s ∙ sym (length-ground c 0 heads)

pub own-starts :
    (c : Context) (heads : List Head) (starts : List ℕ) (m : ℕ) (h : Head) → starts ≡ starts_from c 0 heads → m < length heads → h ≡ get_or heads m h
    → get_or starts (m + 1) 0 ≡ get_or starts m 0 + length (tuples (extents_of c h.params))
own-starts c heads starts m h e l q =
    ap (λ ns. get_or ns (m + 1) 0) e ∙ starts-step c 0 heads m h l
    ∙ ap (λ x. get_or (starts_from c 0 heads) m 0 + length (tuples (extents_of c x.params))) (sym q)
    ∙ ap (λ ns. get_or ns m 0 + length (tuples (extents_of c h.params))) (sym e)

pub starts-rise : (c : Context) (heads : List Head) (starts : List ℕ) (m : ℕ) → starts ≡ starts_from c 0 heads → m < length heads → get_or starts m 0 ≤ get_or starts (m + 1) 0
starts-rise c [] starts m e l = absurd (omega arith)
starts-rise c (h ∷ hs) starts m e l =
    let s = starts-step c 0 (h ∷ hs) m h l in
    let a : get_or starts m 0 ≡ get_or (starts_from c 0 (h ∷ hs)) m 0 = ap (λ ns. get_or ns m 0) e in
    let b : get_or starts (m + 1) 0 ≡ get_or (starts_from c 0 (h ∷ hs)) (m + 1) 0 = ap (λ ns. get_or ns (m + 1) 0) e in
    omega arith

-- no head has the name
pub number-none :
    (c : Context) (heads : List Head) (name objects : List ℕ) (names : List (List ℕ)) → names ≡ head_names heads → position (bytes_eq name) names ≡ None
    → number_of c heads name objects ≡ length (ground_names c heads)
number-none c heads name objects names e q =
    let k : position_or_len (bytes_eq name) (head_names heads) ≡ length heads =
    position-none (bytes_eq name) (head_names heads) (ap (position (bytes_eq name)) (sym e) ∙ q) ∙ length-names heads in
    ground-none c 0 (position_or_len (bytes_eq name) (head_names heads)) heads objects (λ i l z. absurd (omega arith))

-- a head has the name, and the objects are among its own
pub number-found :
    (c : Context) (heads : List Head) (starts name objects : List ℕ) (names : List (List ℕ)) (m rank : ℕ) (h : Head)
    → starts ≡ starts_from c 0 heads → names ≡ head_names heads → position (bytes_eq name) names ≡ Some m → m < length heads → h ≡ get_or heads m h
    → rank ≡ position_or_len (bytes_eq objects) (tuples (extents_of c h.params)) → rank < length (tuples (extents_of c h.params))
    → number_of c heads name objects ≡ get_or starts m 0 + rank
number-found c heads starts name objects names m rank h s e q l i r w =
    let k : position_or_len (bytes_eq name) (head_names heads) ≡ m = position-some (bytes_eq name) (head_names heads) m (ap (position (bytes_eq name)) (sym e) ∙ q) in
    let z : position_or_len (bytes_eq name) (head_names heads) ≡ 0 + m = omega arith in
    let P : Head → Type 0 = λ x. position_or_len (bytes_eq objects) (tuples (extents_of c x.params)) < length (tuples (extents_of c x.params)) in
    let f = ground-found c 0 (position_or_len (bytes_eq name) (head_names heads)) m 0 heads h objects l z (subst P i (omega arith)) in
    let n : number_of c heads name objects ≡ 0 + number_of c heads name objects = omega arith in
    n ∙ f ∙ ap (λ x. get_or (starts_from c 0 heads) m 0 + position_or_len (bytes_eq objects) (tuples (extents_of c x.params))) (sym i)
    ∙ ap (λ ns. get_or ns m 0 + position_or_len (bytes_eq objects) (tuples (extents_of c h.params))) (sym s) ∙ ap (λ x. get_or starts m 0 + x) (sym r)

-- a head has the name, and the objects are not among its own
pub number-nowhere :
    (c : Context) (heads : List Head) (name objects : List ℕ) (names : List (List ℕ)) (m rank : ℕ) (h : Head)
    → names ≡ head_names heads → position (bytes_eq name) names ≡ Some m → m < length heads → h ≡ get_or heads m h
    → rank ≡ position_or_len (bytes_eq objects) (tuples (extents_of c h.params)) → length (tuples (extents_of c h.params)) ≤ rank
    → number_of c heads name objects ≡ length (ground_names c heads)
number-nowhere c heads name objects names m rank h e q l i r w =
    let k : position_or_len (bytes_eq name) (head_names heads) ≡ m = position-some (bytes_eq name) (head_names heads) m (ap (position (bytes_eq name)) (sym e) ∙ q) in
    let z : position_or_len (bytes_eq name) (head_names heads) ≡ 0 + m = omega arith in
    let low : position_or_len (bytes_eq objects) (tuples (extents_of c h.params)) ≤ length (tuples (extents_of c h.params)) = place-below (bytes_eq objects) (tuples (extents_of c h.params)) in
    let same : position_or_len (bytes_eq objects) (tuples (extents_of c h.params)) ≡ length (tuples (extents_of c h.params)) = omega arith in
    let P : Head → Type 0 = λ x. position_or_len (bytes_eq objects) (tuples (extents_of c x.params)) ≡ length (tuples (extents_of c x.params)) in
    ground-nowhere c 0 (position_or_len (bytes_eq name) (head_names heads)) m heads h objects l z (subst P i same)
