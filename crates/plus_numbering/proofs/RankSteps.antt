-- One more parameter of a list of objects whose place is found.
use Rattle.std.proofs.Common.{◌≡◌, ℕ, suc, ◌+◌, ◌*◌, ◌<◌, ◌≤◌, List, [], ◌∷◌, ap, sym, refl, ◌∙◌, subst, length, nat_eq, get_or, drop, drop-cons, arith, ⊎_elim}
use Rattle.std.specs.List.{position_or_len}
use Rattle.std.proofs.lemmas.Bool.{cases_lt}
use Rattle.plus_tree.specs.declared.terms.TypedName.{TypedName}
use Rattle.plus_types.specs.Faults.{Context}
use Rattle.plus_expansion.specs.Objects.{members_of, extents_of, tuples}
use Rattle.plus_expansion.proofs.ObjectsLemmas.{Rises, rises-places, rises-order, rises-place, place-nowhere}
use Rattle.plus_numbering.proofs.SizeLemmas.{extents-step, size-step}
use Rattle.plus_numbering.proofs.RankLemmas.{placed, placed-more, placed-lost, some-more, few-more, few-fits}

pub members-rise : (c : Context) (kind xs : List ℕ) → xs ≡ members_of c kind → Rises 0 xs
members-rise c kind xs e = let P : List ℕ → Type 0 = λ ys. Rises 0 ys in subst P (sym e) (rises-places c.types kind 0 c.objects)

pub members-order : (c : Context) (kind xs : List ℕ) → xs ≡ members_of c kind → (i j : ℕ) → i ≤ j → j < length xs → get_or xs i 0 ≤ get_or xs j 0
members-order c kind xs e = rises-order 0 xs (members-rise c kind xs e)

-- between what is lower and what is higher, it is nowhere
pub lost-place :
    (xs : List ℕ) (x i : ℕ) → ((k : ℕ) → k < i → get_or xs k 0 < x) → ((k : ℕ) → i ≤ k → k < length xs → x < get_or xs k 0)
    → position_or_len (nat_eq x) xs ≡ length xs
lost-place xs x i low high = place-nowhere xs x (λ k l e. ⊎_elim (λ (h : k < i). let q : get_or xs k 0 < x = low k h in absurd (omega arith)) (λ (h : i ≤ k). let q : x < get_or xs k 0 = high k h l in absurd (omega arith)) (cases_lt k i))

pub objects-step : (os : List ℕ) (i : ℕ) → i < length os → drop i os ≡ get_or os i 0 ∷ drop (i + 1) os
objects-step os i h = let s : suc i ≡ i + 1 = omega arith in drop-cons os i 0 h ∙ ap (λ j. get_or os i 0 ∷ drop j os) s

pub record Few (rank l size : ℕ) : Type 0 where
  pub some : 0 < l
  pub few : (rank + 1) * l ≤ size
  pub fits : rank + 1 ≤ size

pub rank-few :
    (c : Context) (params : List TypedName) (i : ℕ) (p : TypedName) (extent : List ℕ) (rank place size : ℕ)
    → i < length params → p ≡ get_or params i p → extent ≡ members_of c p.kind.name → place < length extent
    → 0 < length (tuples (extents_of c (drop i params))) → (rank + 1) * length (tuples (extents_of c (drop i params))) ≤ size
    → Few (rank * length extent + place) (length (tuples (extents_of c (drop (i + 1) params)))) size
rank-few c params i p extent rank place size h m e l some few =
    let n = length extent in
    let rest = length (tuples (extents_of c (drop (i + 1) params))) in
    let step : length (tuples (extents_of c (drop i params))) ≡ n * rest = size-step c params i p h m ∙ ap (λ k. k * rest) (sym (ap length e)) in
    let P : ℕ → Type 0 = λ k. 0 < k in
    let Q : ℕ → Type 0 = λ k. (rank + 1) * k ≤ size in
    let now = some-more n rest (subst P step some) in
    let more = few-more rank n place rest size l (subst Q step few) in
    record { some = now; few = more; fits = few-fits (rank * n + place + 1) rest size now more }

pub rank-found :
    (c : Context) (params : List TypedName) (os : List ℕ) (i : ℕ) (p : TypedName) (extent : List ℕ) (rank place size : ℕ)
    → i < length params → i < length os → p ≡ get_or params i p → extent ≡ members_of c p.kind.name → place < length extent → get_or extent place 0 ≡ get_or os i 0
    → placed size rank (extents_of c (drop i params)) (drop i os) ≡ placed size (rank * length extent + place) (extents_of c (drop (i + 1) params)) (drop (i + 1) os)
rank-found c params os i p extent rank place size h k m e l q =
    let rest = extents_of c (drop (i + 1) params) in
    let others = drop (i + 1) os in
    let xss : extents_of c (drop i params) ≡ extent ∷ rest = extents-step c params i p h m ∙ ap (λ xs. xs ∷ rest) (sym e) in
    ap (λ ys. placed size rank ys (drop i os)) xss ∙ ap (placed size rank (extent ∷ rest)) (objects-step os i k)
    ∙ placed-more size rank place (get_or os i 0) extent others rest (rises-place 0 extent place (get_or os i 0) (members-rise c p.kind.name extent e) l q) l

pub rank-lost :
    (c : Context) (params : List TypedName) (os : List ℕ) (i : ℕ) (p : TypedName) (extent : List ℕ) (rank size : ℕ)
    → i < length params → i < length os → p ≡ get_or params i p → extent ≡ members_of c p.kind.name → position_or_len (nat_eq (get_or os i 0)) extent ≡ length extent
    → placed size rank (extents_of c (drop i params)) (drop i os) ≡ size
rank-lost c params os i p extent rank size h k m e q =
    let rest = extents_of c (drop (i + 1) params) in
    let others = drop (i + 1) os in
    let xss : extents_of c (drop i params) ≡ extent ∷ rest = extents-step c params i p h m ∙ ap (λ xs. xs ∷ rest) (sym e) in
    ap (λ ys. placed size rank ys (drop i os)) xss ∙ ap (placed size rank (extent ∷ rest)) (objects-step os i k)
    ∙ placed-lost size rank (get_or os i 0) extent others rest q

pub length-extents : (c : Context) (params : List TypedName) → length (extents_of c params) ≡ length params
length-extents c [] = refl
length-extents c (p ∷ ps) = ap suc (length-extents c ps)
