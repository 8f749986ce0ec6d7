-- A text as it is written is no markup.
use Rattle.std.proofs.Common.{◌≡◌, ℕ, ◌==◌, ◌&&◌, Bool, true, false, List, [], ◌∷◌, ◌++◌, refl, ap, ◌∙◌, if◌then◌else◌, codes}
use Rattle.std.specs.List.{list_all}
use Rattle.std.proofs.lemmas.List.Folds.{list_all-append}
use Rattle.plus_drawing.specs.Markup.{entity, escaped}
use Rattle.plus_drawing.specs.MarkupLaws.{is_plain, IsNoMarkup}

entity_is_no_markup : (b : ℕ) → IsNoMarkup (entity b)
entity_is_no_markup b = go (b == 60) (b == 62) (b == 38) refl refl
  where
    go : (x y z : Bool) → (b == 60) ≡ x → (b == 62) ≡ y → IsNoMarkup (if x then codes "&lt;" else if y then codes "&gt;" else if z then codes "&amp;" else b ∷ [])
    go true y z h k = refl
    go false true z h k = refl
    go false false true h k = refl
    go false false false h k = rw (h, k) refl

pub escaped_is_no_markup : (text : List ℕ) → IsNoMarkup (escaped text)
escaped_is_no_markup [] = refl
escaped_is_no_markup (b ∷ bs) =
    list_all-append is_plain (entity b) (escaped bs) ∙ ap (λ x. x && list_all is_plain (escaped bs)) (entity_is_no_markup b) ∙ escaped_is_no_markup bs
