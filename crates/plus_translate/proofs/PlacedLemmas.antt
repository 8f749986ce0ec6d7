-- Writes that are placed one after the other.
use Rattle.std.specs.Borrow.{Bor}
use Rattle.std.specs.Prelude.{◌≡◌, ℕ, suc, ◌<◌, ◌≤◌, List, [], ◌∷◌, ◌++◌, length, drop, get_or, map, refl}
use Rattle.std.proofs.lemmas.List.{drop_all}
use Rattle.std.proofs.lemmas.List.{map-append}
use Rattle.std.proofs.Common.{ap, sym, ◌∙◌, subst, append-nil, append_assoc, drop-cons}
use Rattle.plus_tree.specs.declared.terms.TypedName.{TypedName}
use Rattle.plus_tree.specs.declared.trees.Leaf.{Leaf}
use Rattle.plus_tree.specs.Cond.{Cond}
use Rattle.plus_tree.specs.Effect.{Effect, effects_of}
use Rattle.plus_translation.specs.Leaves.{Placed, inside, leaves_of, leaves_among}
use Rattle.plus_translate.specs.Placed.{under, lists_of}

map-map : {A B C : Type 0} (f : A → B) (g : B → C) (h : A → C) → ((x : A) → g (f x) ≡ h x) → (xs : List A) → map g (map f xs) ≡ map h xs
map-map f g h law [] = refl
map-map f g h law (x ∷ xs) = ap (λ y. y ∷ map g (map f xs)) (law x) ∙ ap (λ ys. h x ∷ ys) (map-map f g h law xs)

-- the writes of a `when`, inside the lists around it
pub in_when : (lists : List (List TypedName)) (c : Cond) (ls : List Leaf)
    → map (under lists) (map (λ l. record { lists = []; guards = c ∷ []; leaf = l }) ls) ≡ map (λ l. record { lists = lists; guards = c ∷ []; leaf = l }) ls
in_when lists c ls = map-map _ (under lists) _ (λ l. ap (λ vs. record { lists = vs; guards = c ∷ []; leaf = l }) (append-nil lists)) ls

-- one write, inside the lists around it
pub alone : (lists : List (List TypedName)) (l : Leaf) → under lists (record { lists = []; guards = []; leaf = l }) ≡ record { lists = lists; guards = []; leaf = l }
alone lists l = ap (λ vs. record { lists = vs; guards = []; leaf = l }) (append-nil lists)

-- one list more
pub one_inside : (lists : List (List TypedName)) (vs : List TypedName) (ps : List Placed) → map (under lists) (map (inside vs) ps) ≡ map (under (lists ++ vs ∷ [])) ps
one_inside lists vs ps = map-map (inside vs) (under lists) (under (lists ++ vs ∷ [])) (λ p. ap (λ ls. record { lists = ls; guards = p.guards; leaf = p.leaf }) (sym (append_assoc lists (vs ∷ []) p.lists))) ps

pub lists_of-push : (ls : List (Bor (List TypedName))) (l : Bor (List TypedName)) → lists_of (ls ++ l ∷ []) ≡ lists_of ls ++ l.now ∷ []
lists_of-push ls l = map-append (λ (r : Bor (List TypedName)). r.now) ls (l ∷ [])

-- the writes inside a `forall`
pub forall_done : (ls : List (Bor (List TypedName))) (r : Bor (List TypedName)) (pushed : List (Bor (List TypedName))) (names : List TypedName) (e e' : Effect) (old new : List Placed)
    → pushed ≡ ls ++ r ∷ [] → r.now ≡ names → e' ≡ e → new ≡ old ++ map (under (lists_of pushed)) (leaves_of e')
    → new ≡ old ++ map (under (lists_of ls)) (map (inside names) (leaves_of e))
forall_done ls r pushed names e e' old new push is same put =
    put
    ∙ ap (λ ys. old ++ map (under (lists_of ys)) (leaves_of e')) push
    ∙ ap (λ ys. old ++ map (under ys) (leaves_of e')) (lists_of-push ls r)
    ∙ ap (λ vs. old ++ map (under (lists_of ls ++ vs ∷ [])) (leaves_of e')) is
    ∙ ap (λ x. old ++ map (under (lists_of ls ++ names ∷ [])) (leaves_of x)) same
    ∙ ap (λ ps. old ++ ps) (sym (one_inside (lists_of ls) names (leaves_of e)))

-- ---- member by member

pub record PutSoFar (lists : List (List TypedName)) (items : List Effect) (i : ℕ) (old now : List Placed) : Type 0 where
  pub whole : now ++ map (under lists) (leaves_among (effects_of (drop i items))) ≡ old ++ map (under lists) (leaves_among (effects_of items))

front : {A : Type 0} (xs : List A) (i : ℕ) (x : A) → i < length xs → x ≡ get_or xs i x → drop i xs ≡ x ∷ drop (suc i) xs
front xs i x h m = drop-cons xs i x h ∙ ap (λ y. y ∷ drop (suc i) xs) (sym m)

pub put_begin : (lists : List (List TypedName)) (items : List Effect) (old : List Placed) → PutSoFar lists items 0 old old
put_begin lists items old = record { whole = refl }

pub put_step : (lists : List (List TypedName)) (items : List Effect) (i : ℕ) (x : Effect) (old now new : List Placed) → i < length items → x ≡ get_or items i x
    → PutSoFar lists items i old now → new ≡ now ++ map (under lists) (leaves_of x) → PutSoFar lists items (suc i) old new
put_step lists items i x old now new h m inv e =
    let rest : List Placed = map (under lists) (leaves_among (effects_of (drop (suc i) items))) in
    let s : map (under lists) (leaves_among (effects_of (drop i items))) ≡ map (under lists) (leaves_of x) ++ rest =
    ap (λ xs. map (under lists) (leaves_among (effects_of xs))) (front items i x h m) ∙ map-append (under lists) (leaves_of x) (leaves_among (effects_of (drop (suc i) items))) in
    record { whole = ap (λ ps. ps ++ rest) e ∙ append_assoc now (map (under lists) (leaves_of x)) rest ∙ ap (λ ps. now ++ ps) (sym s) ∙ inv.whole }

pub put_end : (lists : List (List TypedName)) (items : List Effect) (i : ℕ) (old now : List Placed) → length items ≤ i → PutSoFar lists items i old now
    → now ≡ old ++ map (under lists) (leaves_among (effects_of items))
put_end lists items i old now h inv =
    sym (append-nil now) ∙ ap (λ xs. now ++ map (under lists) (leaves_among (effects_of xs))) (sym (drop_all i items h)) ∙ inv.whole

pub ruleset placing = (in_when, alone, one_inside, lists_of-push, put_begin, put_step, put_end, append-nil)
