-- The timed literals, member by member of `:init`.
use Rattle.std.proofs.Common.{◌≡◌, ℕ, ◌+◌, ◌<◌, Bool, false, List, [], ◌∷◌, ◌++◌, ◌∙◌, ap, sym, length, take, get_or, map, add-one, if◌then◌else◌}
use Rattle.std.proofs.Math.Seq.{take-suc}
use Rattle.std.proofs.lemmas.List.{append-nil, map-append}
use Rattle.std.proofs.lemmas.Grind.{flat_map-append}
use Rattle.std.specs.List.{flat_map}
use Rattle.plus_model.specs.Terms.{Timed}
use Rattle.plus_tree.specs.declared.terms.Literal.{Literal}
use Rattle.plus_literal.specs.Value.{literal_value}
use Rattle.plus_expansion.specs.Expansion.{literal_at}

-- the literal at a time that is not below 0 is added
pub added_at :
    {X : Type 0} (view : X → Timed) (before after : List X) (x : X) (t : Literal) (atom : ℕ) (positive : Bool)
    → t.negative ≡ false → after ≡ before ++ x ∷ [] → view x ≡ record { time = literal_value t; atom = atom; positive = positive }
    → map view after ≡ map view before ++ literal_at t atom positive
added_at view before after x t atom positive e a w =
    ap (map view) a ∙ map-append view before (x ∷ []) ∙ ap (λ l. map view before ++ l ∷ []) w
    ∙ ap (λ b. map view before ++ (if b then [] else record { time = literal_value t; atom = atom; positive = positive } ∷ [])) (sym e)

-- the literals of one more member are added
pub added_more :
    {X A B : Type 0} (v : X → B) (f : A → List B) (before after : List X) (xs : List A) (i : ℕ) (x : A)
    → i < length xs → x ≡ get_or xs i x → map v before ≡ flat_map f (take i xs) → map v after ≡ map v before ++ f x
    → map v after ≡ flat_map f (take (i + 1) xs)
added_more v f before after xs i x h m b a =
    let next : take (i + 1) xs ≡ take i xs ++ x ∷ [] = rw add-one (take-suc xs i x h ∙ ap (λ y. take i xs ++ y ∷ []) (sym m)) in
    a ∙ ap (λ ls. ls ++ f x) b ∙ sym (ap (flat_map f) next ∙ flat_map-append f (take i xs) (x ∷ []) ∙ ap (λ ls. flat_map f (take i xs) ++ ls) (append-nil (f x)))
