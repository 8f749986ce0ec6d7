-- The numbers of the lists of types.
use Rattle.std.proofs.Common.{◌≡◌, ℕ, ◌<◌, Bool, true, List, [], ap, sym, ◌∙◌, map, length, cond, position, Some, None, nat_lt, get_or, Vec, Global, arith}
use Rattle.std.specs.List.{position_or_len}
use Rattle.std.specs.Str.{bytes_eq}
use Rattle.std.proofs.lemmas.List.{length-map, get_or-map}
use Rattle.plus_tree.specs.declared.terms.TypedName.{TypedName}
use Rattle.plus_tree.specs.declared.trees.Head.{Head}
use Rattle.plus_numbering.specs.Tables.{list_numbers}
use Rattle.plus_numbering.proofs.RankLemmas.{lt-true}

-- a first place that is inside is found
pub position-within : {X : Type 0} (p : X → Bool) (xs : List X) (i : ℕ) → i ≡ position_or_len p xs → i < length xs → Some i ≡ position p xs
position-within p xs i e h =
    let t : nat_lt (position_or_len p xs) (length xs) ≡ true = lt-true (position_or_len p xs) (length xs) (omega arith) in
    ap Some e ∙ sym (ap (λ b. cond b (Some (position_or_len p xs)) None) t)

-- the number of the list of the type of a parameter
pub number-at :
    (names : List (List ℕ)) (ks : List ℕ) (params : List TypedName) (i : ℕ) (p : TypedName)
    → ks ≡ list_numbers names params → i < length params → p ≡ get_or params i p
    → get_or ks i 0 ≡ position_or_len (bytes_eq p.kind.name) names
number-at names ks params i p e l n =
    let g : TypedName → ℕ = λ x. position_or_len (bytes_eq x.kind.name) names in
    ap (λ xs. get_or xs i 0) e ∙ get_or-map g params i p 0 l ∙ ap g (sym n)

-- those of the parameters of a predicate or a function
pub kinds-at :
    (names : List (List ℕ)) (ks : List (Vec ℕ Global)) (heads : List Head) (i : ℕ) (k : Vec ℕ Global) (h : Head)
    → map (λ (v : Vec ℕ Global). v.items) ks ≡ map (λ (x : Head). list_numbers names x.params) heads → i < length heads → k ≡ get_or ks i k → h ≡ get_or heads i h
    → k.items ≡ list_numbers names h.params
kinds-at names ks heads i k h e l m n =
    let f : Head → List ℕ = λ x. list_numbers names x.params in
    let v : Vec ℕ Global → List ℕ = λ x. x.items in
    let many : length ks ≡ length heads = sym (length-map ks v) ∙ ap length e ∙ length-map heads f in
    ap v m ∙ sym (get_or-map v ks i k [] (omega arith)) ∙ ap (λ xs. get_or xs i []) e ∙ get_or-map f heads i h [] l ∙ ap f (sym n)
