-- Pieces around which lists stand.
use Rattle.std.specs.Borrow.{Bor}
use Rattle.std.specs.Prelude.{◌≡◌, ℕ, suc, ◌<◌, List, [], ◌∷◌, ◌++◌, length, take, get_or, refl}
use Rattle.std.proofs.lemmas.List.{map-append}
use Rattle.std.proofs.Common.{ap, sym, ◌∙◌, arith}
use Rattle.std.proofs.Math.Seq.{take-suc}
use Rattle.plus_tree.specs.declared.terms.TypedName.{TypedName}
use Rattle.plus_tree.specs.Cond.{Cond, c_forall, c_exists}
use Rattle.plus_tree.specs.Effect.{Effect, e_forall}
use Rattle.plus_translation.specs.Renamed.{nowhere}
use Rattle.plus_translation.specs.Leaves.{over, some, over_effect, nested}
use Rattle.plus_translate.specs.Placed.{lists_of}

pub over_some : (vs : List TypedName) (c : Cond) → 0 < length vs → over vs c ≡ c_forall vs c nowhere
over_some [] c h = absurd (omega (arith, h))
over_some (v ∷ vs) c h = refl

pub some_some : (vs : List TypedName) (c : Cond) → 0 < length vs → some vs c ≡ c_exists vs c nowhere
some_some [] c h = absurd (omega (arith, h))
some_some (v ∷ vs) c h = refl

pub over_effect_some : (vs : List TypedName) (e : Effect) → 0 < length vs → over_effect vs e ≡ e_forall vs e nowhere
over_effect_some [] e h = absurd (omega (arith, h))
over_effect_some (v ∷ vs) e h = refl

nested-append : (xs : List (List TypedName)) (v : List TypedName) (e : Effect) → nested (xs ++ v ∷ []) e ≡ nested xs (over_effect v e)
nested-append [] v e = refl
nested-append (x ∷ xs) v e = ap (over_effect x) (nested-append xs v e)

-- one list more, from inside
pub nesting : (xs : List (Bor (List TypedName))) (k : ℕ) (r : Bor (List TypedName)) (e : Effect) → k < length xs → r ≡ get_or xs k r
    → nested (lists_of (take (suc k) xs)) e ≡ nested (lists_of (take k xs)) (over_effect r.now e)
nesting xs k r e h m =
    ap (λ ys. nested (lists_of ys) e) (take-suc xs k r h ∙ ap (λ y. take k xs ++ y ∷ []) (sym m))
    ∙ ap (λ ys. nested ys e) (map-append (λ (l : Bor (List TypedName)). l.now) (take k xs) (r ∷ []))
    ∙ nested-append (lists_of (take k xs)) r.now e
