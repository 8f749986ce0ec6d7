-- What stands at a place among the lists that take one member of each of these lists.
use Rattle.std.proofs.Common.{◌≡◌, ℕ, zero, suc, ◌+◌, ◌*◌, ◌/◌, ◌%◌, ◌<◌, List, [], ◌∷◌, ◌++◌, ap, sym, refl, ◌∙◌, map, length, get_or, drop, arith}
use Rattle.std.proofs.lemmas.List.{length-map, get_or-append-add}
use Rattle.std.proofs.lemmas.Nat.{div-add-mod', div_below}
use Rattle.std.proofs.Math.Nat.{mul-div_right}
use Rattle.plus_tree.specs.declared.terms.TypedName.{TypedName}
use Rattle.plus_types.specs.Faults.{Context}
use Rattle.plus_expansion.specs.Objects.{members_of, extents_of, tuples}
use Rattle.plus_numbering.proofs.SizeLemmas.{blocks, extents-step, size-step}

pub at-first : (xs ys : List (List ℕ)) (i : ℕ) → i < length xs → get_or (xs ++ ys) i [] ≡ get_or xs i []
at-first [] ys i h = absurd (omega arith)
at-first (x ∷ xs) ys zero h = refl
at-first (x ∷ xs) ys (suc i) h = at-first xs ys i (omega arith)

pub at-begun : (x : ℕ) (ts : List (List ℕ)) (j : ℕ) → j < length ts → get_or (map (λ t. x ∷ t) ts) j [] ≡ x ∷ get_or ts j []
at-begun x [] j h = absurd (omega arith)
at-begun x (t ∷ ts) zero h = refl
at-begun x (t ∷ ts) (suc j) h = at-begun x ts j (omega arith)

pub block-at : (xs : List ℕ) (ts : List (List ℕ)) (i j : ℕ) → i < length xs → j < length ts → get_or (blocks ts xs) (i * length ts + j) [] ≡ get_or xs i 0 ∷ get_or ts j []
block-at [] ts i j h k = absurd (omega arith)
block-at (x ∷ xs) ts zero j h k =
    let l : length (map (λ t. x ∷ t) ts) ≡ length ts = length-map ts (λ t. x ∷ t) in
    let z : 0 * length ts + j ≡ j = omega arith in
    ap (λ n. get_or (blocks ts (x ∷ xs)) n []) z ∙ at-first (map (λ t. x ∷ t) ts) (blocks ts xs) j (omega arith) ∙ at-begun x ts j k
block-at (x ∷ xs) ts (suc i) j h k =
    let l : length (map (λ t. x ∷ t) ts) ≡ length ts = length-map ts (λ t. x ∷ t) in
    let z : suc i * length ts + j ≡ length (map (λ t. x ∷ t) ts) + (i * length ts + j) = omega arith in
    ap (λ n. get_or (blocks ts (x ∷ xs)) n []) z ∙ get_or-append-add (map (λ t. x ∷ t) ts) (blocks ts xs) (i * length ts + j) [] ∙ block-at xs ts i j (omega arith) k

pub record Parted (c : Context) (params : List TypedName) (i : ℕ) (extent : List ℕ) (step left : ℕ) : Type 0 where
  pub some : 0 < step / length extent
  pub many : step / length extent ≡ length (tuples (extents_of c (drop (i + 1) params)))
  pub within : left / (step / length extent) < length extent
  pub below : left % (step / length extent) < step / length extent
  pub found : get_or (tuples (extents_of c (drop i params))) left []
      ≡ get_or extent (left / (step / length extent)) 0 ∷ get_or (tuples (extents_of c (drop (i + 1) params))) (left % (step / length extent)) []

some-both : (n l left : ℕ) → left < n * l → (0 < n) × (0 < l)
some-both zero l left h = absurd (omega arith)
some-both (suc n) zero left h = absurd (omega arith)
some-both (suc n) (suc l) left h = (omega arith, omega arith)

-- one more parameter: which member of its list stands there, and what is left
pub parted :
    (c : Context) (params : List TypedName) (i : ℕ) (p : TypedName) (extent : List ℕ) (step left : ℕ)
    → i < length params → p ≡ get_or params i p → extent ≡ members_of c p.kind.name → step ≡ length (tuples (extents_of c (drop i params))) → left < step
    → Parted c params i extent step left
parted c params i p extent step left h m e s w =
    let n = length extent in
    let rest = extents_of c (drop (i + 1) params) in
    let l = length (tuples rest) in
    let whole : step ≡ n * l = s ∙ size-step c params i p h m ∙ ap (λ k. k * l) (sym (ap length e)) in
    let some = some-both n l left (omega arith) in
    let many : step / n ≡ l = ap (λ k. k / n) whole ∙ mul-div_right l some.0 in
    let up : left / l < n = div_below left l n some.1 (omega arith) in
    let low : left % l < l = let z : 0 < l = some.1 in omega arith in
    let back : left / l * l + left % l ≡ left = div-add-mod' left l in
    let xss : extents_of c (drop i params) ≡ extent ∷ rest = extents-step c params i p h m ∙ ap (λ xs. xs ∷ rest) (sym e) in
    let at : get_or (tuples (extents_of c (drop i params))) left [] ≡ get_or extent (left / l) 0 ∷ get_or (tuples rest) (left % l) [] =
    ap (λ ys. get_or (tuples ys) left []) xss ∙ ap (λ k. get_or (blocks (tuples rest) extent) k []) (sym back) ∙ block-at extent (tuples rest) (left / l) (left % l) up low in
    record {
      some = rw many some.1;
      many = many;
      within = rw many up;
      below = rw many low;
      found = rw many at;
    }
