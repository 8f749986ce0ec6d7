-- Where a head has the name and each object is of the type of its parameter, there is such a ground atom or fluent:
-- its number is below how many there are.
use Rattle.std.proofs.Common.{◌≡◌, ℕ, suc, ◌+◌, ◌<◌, Bool, true, false, List, [], ◌∷◌, ap, sym, ◌∙◌, map, length, cond, not, ◌||◌, ◌&&◌, Some, arith}
use Rattle.std.specs.List.{list_any, position_or_len}
use Rattle.std.specs.Str.{bytes_eq}
use Rattle.std.proofs.lemmas.List.Folds.{list_any-append}
use Rattle.plus_tree.specs.declared.trees.Head.{Head}
use Rattle.plus_tree.specs.declared.terms.TypedName.{TypedName}
use Rattle.plus_types.specs.Faults.{Context, params_of}
use Rattle.plus_types.proofs.NamesLemmas.{list_any-map}
use Rattle.plus_types.proofs.TypesLemmas.{or-right}
use Rattle.plus_expansion.specs.Objects.{tuples, extents_of}
use Rattle.plus_expansion.specs.Numbers.{ground_names_from, ground_names, head_names, is_same, number_of}
use Rattle.plus_expansion.proofs.Places.{are_members, any-within, any-tuple, same-number}

-- the ground names of one head
pub any-own :
    (k : ℕ) (objects : List ℕ) (ts : List (List ℕ)) → list_any (bytes_eq objects) ts ≡ true
    → list_any (is_same (k, objects)) (map (λ t. (k, t)) ts) ≡ true
any-own k objects ts e =
    list_any-map (is_same (k, objects)) (λ t. (k, t)) ts ∙ ap (λ b. list_any (λ t. b && bytes_eq objects t) ts) (same-number k) ∙ e

pub any-ground :
    (c : Context) (n k : ℕ) (heads : List Head) (name objects : List ℕ) (params : List TypedName)
    → k ≡ n + position_or_len (bytes_eq name) (head_names heads) → params_of heads name ≡ Some params → are_members (extents_of c params) objects ≡ true
    → list_any (is_same (k, objects)) (ground_names_from c n heads) ≡ true
any-ground c n k [] name objects params q e m = cc
any-ground c n k (h ∷ hs) name objects params q e m =
    list_any-append (is_same (k, objects)) (map (λ t. (n, t)) (tuples (extents_of c h.params))) (ground_names_from c (suc n) hs)
    ∙ by (bytes_eq name h.name.name) q e (any-ground c (suc n) k hs name objects params)
  where
    by :
        (b : Bool) → k ≡ n + cond (not b) (1 + position_or_len (bytes_eq name) (head_names hs)) 0 → cond b (Some h.params) (params_of hs name) ≡ Some params
        → (k ≡ suc n + position_or_len (bytes_eq name) (head_names hs) → params_of hs name ≡ Some params → are_members (extents_of c params) objects ≡ true
        → list_any (is_same (k, objects)) (ground_names_from c (suc n) hs) ≡ true)
        → (list_any (is_same (k, objects)) (map (λ t. (n, t)) (tuples (extents_of c h.params))) || list_any (is_same (k, objects)) (ground_names_from c (suc n) hs)) ≡ true
    by true f g more =
        let here : k ≡ n = omega arith in
        let own : h.params ≡ params = cc in
        let found : list_any (bytes_eq objects) (tuples (extents_of c h.params)) ≡ true =
        any-tuple (extents_of c h.params) objects ∙ ap (λ ps. are_members (extents_of c ps) objects) own ∙ m in
        ap (λ b. b || list_any (is_same (k, objects)) (ground_names_from c (suc n) hs))
        (ap (λ i. list_any (is_same (k, objects)) (map (λ t. (i, t)) (tuples (extents_of c h.params)))) (sym here) ∙ any-own k objects (tuples (extents_of c h.params)) found)
    by false f g more = or-right _ _ (more (omega arith) g m)

-- The number of what has as many objects as parameters, each of its parameter's type, is below how many there are.
pub number-within :
    (c : Context) (heads : List Head) (name objects : List ℕ) (params : List TypedName)
    → params_of heads name ≡ Some params → are_members (extents_of c params) objects ≡ true
    → number_of c heads name objects < length (ground_names c heads)
number-within c heads name objects params e m =
    any-within (is_same (position_or_len (bytes_eq name) (head_names heads), objects)) (ground_names c heads)
    (any-ground c 0 (position_or_len (bytes_eq name) (head_names heads)) heads name objects params (omega arith) e m)
