-- Names of new variables differ.
use Rattle.std.proofs.Common.{◌≡◌, ℕ, ◌+◌, ◌<◌, Bool, true, false, List, [], ◌∷◌, ◌++◌, map, refl, ap, ◌∙◌, arith}
use Rattle.std.specs.Prelude.{codes}
use Rattle.std.specs.Str.{bytes_eq}
use Rattle.std.specs.Int.Digits.{digits_of}
use Rattle.std.proofs.lemmas.List.{append_cancel_left}
use Rattle.std.proofs.lemmas.Int.Digits.{same_from_digits_of}
use Rattle.plus_types.proofs.TypesLemmas.{same-bytes}
use Rattle.plus_translation.specs.Renamed.{numeral, fresh_name}

same_digits : (xs ys : List ℕ) → map (λ d. 48 + d) xs ≡ map (λ d. 48 + d) ys → xs ≡ ys
same_digits [] [] e = refl
same_digits [] (y ∷ ys) e = cc
same_digits (x ∷ xs) [] e = cc
same_digits (x ∷ xs) (y ∷ ys) e =
    let h : 48 + x ≡ 48 + y = cc in
    let t : map (λ d. 48 + d) xs ≡ map (λ d. 48 + d) ys = cc in
    let x' : x ≡ y = omega (arith, h) in
    ap (λ (d : ℕ). d ∷ xs) x' ∙ ap (λ ds. y ∷ ds) (same_digits xs ys t)

pub numeral_injective : (j k : ℕ) → numeral j ≡ numeral k → j ≡ k
numeral_injective j k e = same_from_digits_of 10 j k (omega arith) (same_digits (digits_of 10 j) (digits_of 10 k) e)

fresh_injective : (i j k : ℕ) → fresh_name i j ≡ fresh_name i k → j ≡ k
fresh_injective i j k e =
    numeral_injective j k (append_cancel_left (codes "-") (numeral j) (numeral k)
    (append_cancel_left (numeral i) (codes "-" ++ numeral j) (codes "-" ++ numeral k)
    (append_cancel_left (codes "pp-") (numeral i ++ (codes "-" ++ numeral j)) (numeral i ++ (codes "-" ++ numeral k)) e)))

pub fresh_apart : (i j k : ℕ) → j < k → bytes_eq (fresh_name i j) (fresh_name i k) ≡ false
fresh_apart i j k h = by (bytes_eq (fresh_name i j) (fresh_name i k)) refl
  where
    by : (b : Bool) → bytes_eq (fresh_name i j) (fresh_name i k) ≡ b → bytes_eq (fresh_name i j) (fresh_name i k) ≡ false
    by false e = e
    by true e = absurd (let s = fresh_injective i j k (same-bytes (fresh_name i j) (fresh_name i k) e) in omega arith)
