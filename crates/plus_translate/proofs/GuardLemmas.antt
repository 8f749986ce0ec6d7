-- Lists that go on by one event.
use Rattle.std.specs.Prelude.{◌≡◌, ℕ, suc, ◌+◌, ◌<◌, ◌≤◌, List, [], ◌∷◌, ◌++◌, length, take, get_or, refl}
use Rattle.std.proofs.Common.{ap, sym, ◌∙◌, arith, length-take-le, append-nil, append_assoc, add-one}
use Rattle.std.proofs.Math.Seq.{take-suc}
use Rattle.plus_tree.specs.declared.trees.Head.{Head}
use Rattle.plus_tree.specs.declared.trees.Schema.{Schema}
use Rattle.plus_tree.specs.Cond.{Cond}
use Rattle.plus_tree.specs.Effect.{Effect}
use Rattle.plus_translation.specs.Translated.{mark_heads, none_repeats, clears, event_fires, fires}
use Rattle.plus_translate.specs.Single.{repeats_of, clear_of, head_of}

-- a list made event by event, whose first event has number i
going_on : {B : Type 0} (F : ℕ → List Schema → List B) (f : ℕ → Schema → List B) → ((i : ℕ) (x : Schema) (xs : List Schema) → F i (x ∷ xs) ≡ f i x ++ F (suc i) xs)
    → ((i : ℕ) → F i [] ≡ []) → (i : ℕ) (xs : List Schema) (x : Schema) → F i (xs ++ x ∷ []) ≡ F i xs ++ f (length xs + i) x
going_on F f law none i [] x =
    law i x [] ∙ ap (λ ys. f i x ++ ys) (none (suc i)) ∙ append-nil (f i x) ∙ ap (λ n. f n x) (let e : i ≡ 0 + i = omega arith in e)
    ∙ ap (λ ys. ys ++ f (0 + i) x) (sym (none i))
going_on F f law none i (y ∷ xs) x =
    law i y (xs ++ x ∷ []) ∙ ap (λ ys. f i y ++ ys) (going_on F f law none (suc i) xs x)
    ∙ sym (append_assoc (f i y) (F (suc i) xs) (f (length xs + suc i) x))
    ∙ ap (λ n. (f i y ++ F (suc i) xs) ++ f n x) (let e : length xs + suc i ≡ length (y ∷ xs) + i = omega arith in e)
    ∙ ap (λ ys. ys ++ f (length (y ∷ xs) + i) x) (sym (law i y xs))

one_more : {B : Type 0} (F : ℕ → List Schema → List B) (f : ℕ → Schema → List B) → ((i : ℕ) (x : Schema) (xs : List Schema) → F i (x ∷ xs) ≡ f i x ++ F (suc i) xs)
    → ((i : ℕ) → F i [] ≡ []) → (xs : List Schema) (k : ℕ) (x : Schema) → k < length xs → x ≡ get_or xs k x → F 1 (take (suc k) xs) ≡ F 1 (take k xs) ++ f (k + 1) x
one_more F f law none xs k x h m =
    ap (F 1) (take-suc xs k x h ∙ ap (λ y. take k xs ++ y ∷ []) (sym m)) ∙ going_on F f law none 1 (take k xs) x
    ∙ ap (λ n. F 1 (take k xs) ++ f (n + 1) x) (length-take-le k xs (let l : k ≤ length xs = omega (arith, h) in l))

pub repeating : (xs : List Schema) (k : ℕ) (x : Schema) (first into new : List Cond) (y : Cond) → k < length xs → x ≡ get_or xs k x
    → into ≡ first ++ none_repeats 1 (take k xs) → new ≡ into ++ y ∷ [] → y ≡ repeats_of (k + 1) x → new ≡ first ++ none_repeats 1 (take (k + 1) xs)
repeating xs k x first into new y h m so_far push is =
    push ∙ ap (λ ys. ys ++ y ∷ []) so_far ∙ append_assoc first (none_repeats 1 (take k xs)) (y ∷ []) ∙ ap (λ z. first ++ (none_repeats 1 (take k xs) ++ z ∷ [])) is
    ∙ ap (λ ys. first ++ ys) (sym (ap (λ n. none_repeats 1 (take n xs)) (add-one k) ∙ one_more none_repeats (λ i a. repeats_of i a ∷ []) (λ i x xs. refl) (λ i. refl) xs k x h m))

pub clearing : (xs : List Schema) (k : ℕ) (x : Schema) (first into new : List Effect) (y : Effect) → k < length xs → x ≡ get_or xs k x
    → into ≡ first ++ clears 1 (take k xs) → new ≡ into ++ y ∷ [] → y ≡ clear_of (k + 1) x → new ≡ first ++ clears 1 (take (k + 1) xs)
clearing xs k x first into new y h m so_far push is =
    push ∙ ap (λ ys. ys ++ y ∷ []) so_far ∙ append_assoc first (clears 1 (take k xs)) (y ∷ []) ∙ ap (λ z. first ++ (clears 1 (take k xs) ++ z ∷ [])) is
    ∙ ap (λ ys. first ++ ys) (sym (ap (λ n. clears 1 (take n xs)) (add-one k) ∙ one_more clears (λ i a. clear_of i a ∷ []) (λ i x xs. refl) (λ i. refl) xs k x h m))

pub heading : (xs : List Schema) (k : ℕ) (x : Schema) (first into new : List Head) (y : Head) → k < length xs → x ≡ get_or xs k x
    → into ≡ first ++ mark_heads 1 (take k xs) → new ≡ into ++ y ∷ [] → y ≡ head_of (k + 1) x → new ≡ first ++ mark_heads 1 (take (k + 1) xs)
heading xs k x first into new y h m so_far push is =
    push ∙ ap (λ ys. ys ++ y ∷ []) so_far ∙ append_assoc first (mark_heads 1 (take k xs)) (y ∷ []) ∙ ap (λ z. first ++ (mark_heads 1 (take k xs) ++ z ∷ [])) is
    ∙ ap (λ ys. first ++ ys) (sym (ap (λ n. mark_heads 1 (take n xs)) (add-one k) ∙ one_more mark_heads (λ i a. head_of i a ∷ []) (λ i x xs. refl) (λ i. refl) xs k x h m))

pub firing : (xs : List Schema) (k : ℕ) (x : Schema) (first into new : List Effect) → k < length xs → x ≡ get_or xs k x
    → into ≡ first ++ fires 1 (take k xs) → new ≡ into ++ event_fires (k + 1) x → new ≡ first ++ fires 1 (take (k + 1) xs)
firing xs k x first into new h m so_far put =
    put ∙ ap (λ ys. ys ++ event_fires (k + 1) x) so_far ∙ append_assoc first (fires 1 (take k xs)) (event_fires (k + 1) x)
    ∙ ap (λ ys. first ++ ys) (sym (ap (λ n. fires 1 (take n xs)) (add-one k) ∙ one_more fires event_fires (λ i x xs. refl) (λ i. refl) xs k x h m))
