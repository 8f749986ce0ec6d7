-- How a sum or a product of what is held goes on by one more member of a list.
use Rattle.std.proofs.Common.{◌≡◌, ℕ, suc, ◌+◌, ◌*◌, ◌<◌, List, [], ◌∷◌, length, drop, get_or, drop-cons, arith, refl, ap, sym, ◌∙◌}
use Rattle.std.specs.List.{sum_by}
use Rattle.std.proofs.lemmas.List.Sums.{sum_by-cons}
use Rattle.std.proofs.Math.Nat.{mul_assoc}
use Rattle.plus_tree.specs.Expr.{Expr, exprs_of}
use Rattle.plus_tree.specs.declared.trees.Leaf.{Leaf}
use Rattle.plus_numbering.specs.Sizes.{held, leaf_size, factor_size}
use Rattle.plus_numbering.proofs.Holding.{held-held, held-one_more, held-product_left, held-product_right}

-- the rest of a list from a member on
pub rest-from : {X : Type 0} (xs : List X) (i : ℕ) (x : X) → i < length xs → x ≡ get_or xs i x → drop i xs ≡ x ∷ drop (i + 1) xs
rest-from xs i x h m =
    let next : suc i ≡ i + 1 = omega arith in
    drop-cons xs i x h ∙ ap (λ y. y ∷ drop (suc i) xs) (sym m) ∙ ap (λ (k : ℕ). x ∷ drop k xs) next

pub sum_more :
    {X : Type 0} (all : List X → ℕ) (one : X → ℕ) → ((x : X) (xs : List X) → all (x ∷ xs) ≡ one x + all xs)
    → (xs : List X) (i : ℕ) (x : X) (whole total added next : ℕ) → i < length xs → x ≡ get_or xs i x
    → held (total + all (drop i xs)) ≡ held whole → added ≡ held (one x) → next ≡ held (total + added)
    → held (next + all (drop (i + 1) xs)) ≡ held whole
sum_more all one step xs i x whole total added next h m e a n =
    ap (λ (k : ℕ). held (k + all (drop (i + 1) xs))) (n ∙ ap (λ (k : ℕ). held (total + k)) a)
    ∙ held-one_more total (one x) (all (drop (i + 1) xs))
    ∙ ap (λ (k : ℕ). held (total + k)) (sym (step x (drop (i + 1) xs)) ∙ ap all (sym (rest-from xs i x h m)))
    ∙ e

pub product_more :
    {X : Type 0} (all : List X → ℕ) (one : X → ℕ) → ((x : X) (xs : List X) → all (x ∷ xs) ≡ one x * all xs)
    → (xs : List X) (i : ℕ) (x : X) (whole total added next : ℕ) → i < length xs → x ≡ get_or xs i x
    → held (total * all (drop i xs)) ≡ held whole → added ≡ held (one x) → next ≡ held (total * added)
    → held (next * all (drop (i + 1) xs)) ≡ held whole
product_more all one step xs i x whole total added next h m e a n =
    let rest = all (drop (i + 1) xs) in
    ap (λ (k : ℕ). held (k * rest)) (n ∙ ap (λ (k : ℕ). held (total * k)) a ∙ held-product_right total (one x))
    ∙ held-product_left (total * one x) rest
    ∙ ap held (mul_assoc total (one x) rest)
    ∙ ap (λ (k : ℕ). held (total * k)) (sym (step x (drop (i + 1) xs)) ∙ ap all (sym (rest-from xs i x h m)))
    ∙ e

-- what is held of a number is all that is held of it
pub no_more : (n k : ℕ) → n ≡ held k → n ≡ held n
no_more n k e = e ∙ sym (held-held k) ∙ ap held (sym e)

-- writes under a guard of which only so much is held
pub held-guard : (guard : ℕ) (ls : List Leaf) → held (sum_by (leaf_size (held guard)) ls) ≡ held (sum_by (leaf_size guard) ls)
unfolding held
held-guard guard [] = refl
held-guard guard (l ∷ ls) =
    let a = sum_by-cons (leaf_size (held guard)) l ls in
    let b = sum_by-cons (leaf_size guard) l ls in
    let r = held-guard guard ls in
    omega (arith, a, b, r)

-- factors that are not two make no rate
pub not_two : (es : List Expr) → (length es ≡ 2 → ⊥) → factor_size (exprs_of es) ≡ 1
not_two [] h = refl
not_two (e ∷ []) h = refl
not_two (e ∷ f ∷ []) h = absurd (h refl)
not_two (e ∷ f ∷ g ∷ gs) h = refl
