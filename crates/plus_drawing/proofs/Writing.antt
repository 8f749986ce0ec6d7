-- Markup as it grows.
use Rattle.std.proofs.Common.{◌≡◌, ℕ, Bool, true, List, [], ◌∷◌, ◌++◌, refl, sym, subst, codes}
use Rattle.std.proofs.Math.Logic.{∥∥₁_map}
use Rattle.plus_drawing.specs.declared.markup.Tag.{Tag}
use Rattle.plus_drawing.specs.Markup.{escaped, opening, closing, Written}
use Rattle.plus_drawing.specs.Markup.Written.{nothing, with_text, with_lone, with_opening, with_closing}

-- these bytes are markup in which these are open, unless memory is wanting
abbrev pub Holds : Bool → List Tag → List ℕ → Type 0
Holds whole opened bytes = ∥ (whole ≡ true → Written opened bytes) ∥₁

pub begun : (whole : Bool) → Holds whole [] []
begun whole = ∣ (λ t. nothing) ∣₁

module _ (whole : Bool) (opened : List Tag) (bytes now : List ℕ) where
  along : (w : List Tag) → (Written opened bytes → Written w now) → Holds whole opened bytes → Holds whole w now
  along w f h = ∥∥₁_map h (λ g t. f (g t))

  pub text_written : (text : List ℕ) → now ≡ bytes ++ escaped text → Holds whole opened bytes → Holds whole opened now
  text_written text e = along opened (λ w. subst (λ (xs : List ℕ). Written opened xs) (sym e) (with_text opened bytes text w))

  pub lone_written : (tag : Tag) (head : List ℕ) → now ≡ bytes ++ opening tag head (codes "/>") → Holds whole opened bytes → Holds whole opened now
  lone_written tag head e = along opened (λ w. subst (λ (xs : List ℕ). Written opened xs) (sym e) (with_lone opened bytes tag head w))

  pub opening_written : (more : List Tag) (tag : Tag) (head : List ℕ) → more ≡ opened ++ tag ∷ [] → now ≡ bytes ++ opening tag head (codes ">")
      → Holds whole opened bytes → Holds whole more now
  opening_written more tag head m e = along more (λ w. subst (λ (o : List Tag). Written o now) (sym m)
      (subst (λ (xs : List ℕ). Written (opened ++ tag ∷ []) xs) (sym e) (with_opening opened bytes tag head w)))

  pub closing_written : (less : List Tag) (tag : Tag) → opened ≡ less ++ tag ∷ [] → now ≡ bytes ++ closing tag → Holds whole opened bytes → Holds whole less now
  closing_written less tag l e = along less (λ w. subst (λ (xs : List ℕ). Written less xs) (sym e) (with_closing less bytes tag (subst (λ (o : List Tag). Written o bytes) l w)))

pub finished : (opened : List Tag) (bytes : List ℕ) → opened ≡ [] → Holds true opened bytes → ∥ Written [] bytes ∥₁
finished opened bytes e h = ∥∥₁_map h (λ w. subst (λ (o : List Tag). Written o bytes) e (w refl))
