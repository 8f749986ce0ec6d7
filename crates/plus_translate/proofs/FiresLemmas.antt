-- What events and processes do, write by write.
use Rattle.std.specs.Prelude.{◌≡◌, ℕ, suc, ◌<◌, List, [], ◌∷◌, ◌++◌, length, take, get_or, map, refl}
use Rattle.std.specs.List.{flat_map}
use Rattle.std.proofs.Common.{ap, sym, ◌∙◌, append-nil, append_assoc}
use Rattle.std.proofs.Math.Seq.{take-suc}
use Rattle.plus_tree.specs.declared.terms.TypedName.{TypedName}
use Rattle.plus_tree.specs.declared.trees.Schema.{Schema}
use Rattle.plus_tree.specs.Expr.{Expr}
use Rattle.plus_tree.specs.Effect.{Effect}
use Rattle.plus_translation.specs.Leaves.{Placed, inside, leaves_of}
use Rattle.plus_translation.specs.Translated.{event_fires, flows}
use Rattle.plus_translate.specs.Fires.{fires_of, marks_of, flow_of}

map-map : {A B C : Type 0} (f : A → B) (g : B → C) (h : A → C) → ((x : A) → g (f x) ≡ h x) → (xs : List A) → map g (map f xs) ≡ map h xs
map-map f g h law [] = refl
map-map f g h law (x ∷ xs) = ap (λ y. y ∷ map g (map f xs)) (law x) ∙ ap (λ ys. h x ∷ ys) (map-map f g h law xs)

pub event_fires_are : (i : ℕ) (a : Schema) (ps : List Placed) → ps ≡ map (inside a.params) (leaves_of a.effect)
    → event_fires i a ≡ map (fires_of a.condition) ps ++ marks_of i a ∷ []
event_fires_are i a ps e =
    ap (λ es. es ++ marks_of i a ∷ []) (sym (map-map (inside a.params) (fires_of a.condition) _ (λ p. refl) (leaves_of a.effect)) ∙ ap (map (fires_of a.condition)) (sym e))

pub flows_are : (q : Expr) (a : Schema) (ps : List Placed) → ps ≡ map (inside a.params) (leaves_of a.effect) → flows q a ≡ map (flow_of q a.condition) ps
flows_are q a ps e = sym (map-map (inside a.params) (flow_of q a.condition) _ (λ p. refl) (leaves_of a.effect)) ∙ ap (map (flow_of q a.condition)) (sym e)

pub event_done :
    (i : ℕ) (a : Schema) (outer : List TypedName) (ps qs : List Placed) (old mid new : List Effect) (m : Effect) → outer ≡ a.params
    → ps ≡ map (inside outer) (leaves_of a.effect) → qs ≡ ps → mid ≡ old ++ map (fires_of a.condition) qs → new ≡ mid ++ m ∷ [] → m ≡ marks_of i a
    → new ≡ old ++ event_fires i a
event_done i a outer ps qs old mid new m o p e writes push mark =
    push ∙ ap (λ xs. xs ++ m ∷ []) writes ∙ append_assoc old (map (fires_of a.condition) qs) (m ∷ [])
    ∙ ap (λ xs. old ++ (map (fires_of a.condition) xs ++ m ∷ [])) e
    ∙ ap (λ x. old ++ (map (fires_of a.condition) ps ++ x ∷ [])) mark
    ∙ ap (λ xs. old ++ xs) (sym (event_fires_are i a ps (p ∙ ap (λ vs. map (inside vs) (leaves_of a.effect)) o)))

pub process_done :
    (q : Expr) (a : Schema) (outer : List TypedName) (ps qs : List Placed) (old new : List Effect) → outer ≡ a.params
    → ps ≡ map (inside outer) (leaves_of a.effect) → qs ≡ ps → new ≡ old ++ map (flow_of q a.condition) qs → new ≡ old ++ flows q a
process_done q a outer ps qs old new o p e rates =
    rates ∙ ap (λ xs. old ++ map (flow_of q a.condition) xs) e
    ∙ ap (λ xs. old ++ xs) (sym (flows_are q a ps (p ∙ ap (λ vs. map (inside vs) (leaves_of a.effect)) o)))

flat_map-append : {B : Type 0} (f : Schema → List B) (xs : List Schema) (x : Schema) → flat_map f (xs ++ x ∷ []) ≡ flat_map f xs ++ f x
flat_map-append f [] x = append-nil (f x)
flat_map-append f (y ∷ xs) x = ap (λ ys. f y ++ ys) (flat_map-append f xs x) ∙ sym (append_assoc (f y) (flat_map f xs) (f x))

pub flowing : (q : Expr) (xs : List Schema) (k : ℕ) (x : Schema) → k < length xs → x ≡ get_or xs k x
    → flat_map (flows q) (take (suc k) xs) ≡ flat_map (flows q) (take k xs) ++ flows q x
flowing q xs k x h m = ap (flat_map (flows q)) (take-suc xs k x h ∙ ap (λ y. take k xs ++ y ∷ []) (sym m)) ∙ flat_map-append (flows q) (take k xs) x
