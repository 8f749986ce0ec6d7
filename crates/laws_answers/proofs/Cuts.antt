-- A text is cut behind its last LF in one way.
use Rattle.std.proofs.Common.{◌≡◌, ℕ, Bool, true, false, List, [], ◌∷◌, ◌++◌, refl, ap, sym, subst, ◌∙◌, inl, inr}
use Rattle.std.specs.Prelude.{◌≢◌, ◌⊎◌, All}
use Rattle.std.proofs.lemmas.List.Elements.{All-head, All-tail}
use Rattle.plus_validator.specs.Refused.{WholeLines}

-- no byte of it is an LF
abbrev InLine : List ℕ → Type 0
InLine bytes = All (λ b. b ≢ 10) bytes

-- it is empty, or its last byte is an LF
abbrev EndsLine : List ℕ → Type 0
EndsLine [] = Unit {0}
EndsLine (x ∷ []) = x ≡ 10
EndsLine (x ∷ y ∷ rest) = EndsLine (y ∷ rest)

ends_behind : (front : List ℕ) → EndsLine (front ++ 10 ∷ [])
ends_behind [] = refl
ends_behind (x ∷ []) = refl
ends_behind (x ∷ y ∷ front) = ends_behind (y ∷ front)

ends_line : (whole : List ℕ) → (whole ≡ []) ⊎ (front : List ℕ) × (whole ≡ front ++ 10 ∷ []) → EndsLine whole
ends_line whole (inl e) = subst EndsLine (sym e) tt
ends_line whole (inr e) = subst EndsLine (sym e.1) (ends_behind e.0)

tail_ends : (x : ℕ) (rest : List ℕ) → EndsLine (x ∷ rest) → EndsLine rest
tail_ends x [] h = tt
tail_ends x (y ∷ rest) h = h

holds_lf : (x : ℕ) (rest piece : List ℕ) → EndsLine (x ∷ rest) → InLine ((x ∷ rest) ++ piece) → ⊥
holds_lf x [] piece h n = (All-head (λ (b : ℕ). b ≢ 10) x piece n) h
holds_lf x (y ∷ rest) piece h n = holds_lf y rest piece h (All-tail (λ (b : ℕ). b ≢ 10) x ((y ∷ rest) ++ piece) n)

one_front : (w v piece left : List ℕ) → w ++ piece ≡ v ++ left → EndsLine w → EndsLine v → InLine piece → InLine left → w ≡ v
one_front [] [] piece left e h k n m = refl
one_front [] (y ∷ v) piece left e h k n m = absurd (holds_lf y v left k (subst InLine e n))
one_front (x ∷ w) [] piece left e h k n m = absurd (holds_lf x w piece h (subst InLine (sym e) m))
one_front (x ∷ w) (y ∷ v) piece left e h k n m =
    let f : x ∷ (w ++ piece) ≡ y ∷ (v ++ left) = e in
    let head : x ≡ y = cc f in
    let tail : w ++ piece ≡ v ++ left = cc f in
    ap (λ z. z ∷ w) head ∙ ap (λ zs. y ∷ zs) (one_front w v piece left tail (tail_ends x w h) (tail_ends y v k) n m)

-- the whole lines are the same
pub one_whole : (goes_on : Bool) (text w piece v left : List ℕ) → WholeLines goes_on text w piece → WholeLines goes_on text v left → w ≡ v
one_whole false text w piece v left a b = a ∙ sym b
one_whole true text w piece v left a b =
    one_front w v piece left (sym a.is ∙ b.is) (ends_line w a.at_line) (ends_line v b.at_line) a.in_one_line b.in_one_line
