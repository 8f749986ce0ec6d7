-- The variables in force as a list, inner ones first.
use Rattle.std.specs.Prelude.{◌≡◌, ◌⊎◌, ℕ, zero, suc, ◌<◌, ◌-◌, ◌≤◌, List, [], ◌∷◌, ◌++◌, length, take, drop, map, reverse, get_or, if◌then◌else◌}
use Rattle.std.specs.Str.{bytes_eq}
use Rattle.std.proofs.lemmas.List.{drop_all}
use Rattle.std.proofs.Common.{ap, sym, ◌∙◌, subst, inl, inr, arith, length-drop}
use Rattle.std.proofs.Math.Seq.{take-suc, drop-append_seam}
use Rattle.std.proofs.lemmas.List.{reverse-append, take-append-drop, length-reverse, drop-map}
use Rattle.plus_renaming.specs.declared.scope.Bound.{Bound}
use Rattle.plus_translation.specs.Renamed.{new_name}

abbrev pub shown : Bound → List ℕ × List ℕ
shown b = (b.old.now, b.new)

le_or : (m n : ℕ) → (m ≤ n) ⊎ (n ≤ m)
le_or zero n = inl (omega arith)
le_or (suc m) zero = inr (omega arith)
le_or (suc m) (suc n) = elim (le_or m n) [ inl h ↦ inl (omega arith) | inr h ↦ inr (omega arith) ]

seam : {A : Type 0} (n : ℕ) (xs ys : List A) → length xs ≡ n → drop n (xs ++ ys) ≡ ys
seam n xs ys h = ap (λ m. drop m (xs ++ ys)) (sym h) ∙ drop-append_seam xs ys

reverse-take : {A : Type 0} (xs : List A) (n : ℕ) → n ≤ length xs → drop n (reverse xs) ≡ reverse (take (length xs - n) xs)
reverse-take xs n h =
    let k : ℕ = length xs - n in
    ap (λ ys. drop n (reverse ys)) (sym (take-append-drop k xs))
    ∙ ap (drop n) (reverse-append (take k xs) (drop k xs))
    ∙ seam n (reverse (drop k xs)) (reverse (take k xs)) (length-reverse (drop k xs) ∙ length-drop k xs ∙ omega arith)

pub unbound : (xs : List Bound) (n : ℕ) → drop n (map shown (reverse xs)) ≡ map shown (reverse (take (length xs - n) xs))
unbound xs n = elim (le_or n (length xs)) [
  | inl h ↦ drop-map shown n (reverse xs) ∙ ap (map shown) (reverse-take xs n h)
  | inr h ↦ drop-map shown n (reverse xs) ∙ ap (map shown) (drop_all n (reverse xs) (subst (λ m. m ≤ n) (sym (length-reverse xs)) h))
      ∙ ap (λ k. map shown (reverse (take k xs))) (let e : 0 ≡ length xs - n = omega (arith, h) in e)
]

-- one variable more is looked at
pub looked : (xs : List Bound) (k : ℕ) (b : Bound) (x : List ℕ) → k < length xs → b ≡ get_or xs k b
    → new_name (map shown (reverse (take (suc k) xs))) x ≡ (if bytes_eq x b.old.now then b.new else new_name (map shown (reverse (take k xs))) x)
looked xs k b x h m =
    ap (λ ys. new_name (map shown (reverse ys)) x) (take-suc xs k b h ∙ ap (λ y. take k xs ++ y ∷ []) (sym m))
    ∙ ap (λ ys. new_name (map shown ys) x) (reverse-append (take k xs) (b ∷ []))
