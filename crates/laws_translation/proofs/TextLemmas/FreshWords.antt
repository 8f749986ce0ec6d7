-- The names that a translation adds are small names.
use Rattle.std.proofs.Common.{◌≡◌, ℕ, suc, false, ◌&&◌, ◌+◌, ◌<◌, ◌≤◌, ◌^◌, Bool, true, ◌||◌, List, [], ◌∷◌, ◌++◌, map, length, refl, ap, ap₂, arith, length-append}
use Rattle.std.specs.Prelude.{codes}
use Rattle.std.specs.Char.{to_ascii_lowercase}
use Rattle.std.specs.List.{list_all, AllByRecursion}
use Rattle.std.specs.Int.Digits.{digits_of}
use Rattle.std.proofs.lemmas.Bool.{le-leb, and_from}
use Rattle.std.proofs.lemmas.Int.Digits.{length-digits_of-le, all_below_base_digits_of}
use Rattle.plus_tokens.specs.Bytes.{is_letter, is_digit, is_name_byte}
use Rattle.plus_tokens.specs.Lowered.{lowered}
use Rattle.plus_canonical.proofs.Smalls.{IsSmall}
use Rattle.plus_canonical.proofs.Terms.{PlainName}
use Rattle.plus_translation.specs.Renamed.{numeral, fresh_name}
use Rattle.plus_translation.specs.Translated.{mark_name}

-- bytes of names, in small letters
record AreSmall (w : List ℕ) : Type 0 where
  bytes : list_all is_name_byte w ≡ true
  same : lowered w ≡ w

or_true : (a b : Bool) → b ≡ true → (a || b) ≡ true
or_true true b e = refl
or_true false b e = e

true_or : (a b : Bool) → a ≡ true → (a || b) ≡ true
true_or true b e = refl
true_or false b e = cc

digit_test : (d : ℕ) → d < 10 → is_digit (48 + d) ≡ true
digit_test d lt = and_from _ _ (le-leb 48 (48 + d) (omega arith)) (le-leb (48 + d) 57 (omega arith))

digit_byte : (d : ℕ) → d < 10 → is_name_byte (48 + d) ≡ true
digit_byte d l = true_or _ _ (or_true (is_letter (48 + d)) _ (digit_test d l))

digit_same : (d : ℕ) → d < 10 → to_ascii_lowercase (48 + d) ≡ 48 + d
digit_same d l = grind arith

digits_small : (ds : List ℕ) → AllByRecursion (λ d. d < 10) ds → AreSmall (map (λ d. 48 + d) ds)
digits_small [] a = record { bytes = refl; same = refl }
digits_small (d ∷ ds) a =
    let rest = digits_small ds a.1 in
    record { bytes = and_from _ _ (digit_byte d a.0) rest.bytes; same = ap₂ (λ (x : ℕ) xs. x ∷ xs) (digit_same d a.0) rest.same }

both_small : (v w : List ℕ) → AreSmall v → AreSmall w → AreSmall (v ++ w)
both_small [] w a b = b
both_small (x ∷ v) w a b =
    let head : is_name_byte x ≡ true = and_left (is_name_byte x) (list_all is_name_byte v) a.bytes in
    let tail : list_all is_name_byte v ≡ true = and_right (is_name_byte x) (list_all is_name_byte v) a.bytes in
    let first : to_ascii_lowercase x ≡ x = cc (a.same) in
    let others : lowered v ≡ v = cc (a.same) in
    let rest = both_small v w (record { bytes = tail; same = others }) b in
    record { bytes = and_from _ _ head rest.bytes; same = ap₂ (λ (y : ℕ) ys. y ∷ ys) first rest.same }
  where
    and_left : (p q : Bool) → (p && q) ≡ true → p ≡ true
    and_left true q e = refl
    and_left false q e = cc

    and_right : (p q : Bool) → (p && q) ≡ true → q ≡ true
    and_right true q e = e
    and_right false q e = cc

numeral_small : (n : ℕ) → AreSmall (numeral n)
numeral_small n = digits_small (digits_of 10 n) (all_below_base_digits_of 10 n (omega arith))

length_map : (ds : List ℕ) → length (map (λ d. 48 + d) ds) ≡ length ds
length_map [] = refl
length_map (d ∷ ds) = ap suc (length_map ds)

-- below 2^64 a numeral has at most 20 digits
numeral_short : (n : ℕ) → n < 2 ^ 64 → length (numeral n) ≤ 20
numeral_short n l = let m = length_map (digits_of 10 n) in let k = length-digits_of-le 10 20 n (omega arith) (omega arith) in omega (arith, m, k)

-- a small name that begins with `p`
p_name : (w : List ℕ) → AreSmall w → length w ≤ 63 → IsSmall (112 ∷ w)
p_name w a l = record {
  name = record { first = 112; others = w; letter = refl; name_bytes = a.bytes; spelled = refl; within = omega arith };
  same = ap (λ xs. 112 ∷ xs) a.same;
}

word_small : (w : List ℕ) → list_all is_name_byte w ≡ true → lowered w ≡ w → AreSmall w
word_small w b s = record { bytes = b; same = s }

pub fresh_small : (i k : ℕ) → i < 2 ^ 64 → k < 2 ^ 64 → IsSmall (fresh_name i k)
fresh_small i k l m =
    let a = numeral_short i l in
    let b = numeral_short k m in
    let c = length-append (numeral i) (45 ∷ numeral k) in
    p_name (codes "p-" ++ (numeral i ++ (codes "-" ++ numeral k)))
    (both_small (codes "p-") (numeral i ++ (codes "-" ++ numeral k)) (word_small (codes "p-") refl refl)
    (both_small (numeral i) (codes "-" ++ numeral k) (numeral_small i) (both_small (codes "-") (numeral k) (word_small (codes "-") refl refl) (numeral_small k))))
    (omega (arith, a, b, c))

pub mark_plain : (i : ℕ) → i < 2 ^ 64 → PlainName (mark_name i)
mark_plain i l = record {
  small = let a = numeral_short i l in p_name (codes "p-f" ++ numeral i) (both_small (codes "p-f") (numeral i) (word_small (codes "p-f") refl refl) (numeral_small i)) (omega (arith, a));
  plain = refl;
}

pub clock_plain : PlainName (codes "pp-clock")
clock_plain = record { small = p_name (codes "p-clock") (word_small (codes "p-clock") refl refl) (omega arith); plain = refl }

pub step_small : IsSmall (codes "pp-step")
step_small = p_name (codes "p-step") (word_small (codes "p-step") refl refl) (omega arith)

pub fire_small : IsSmall (codes "pp-fire")
fire_small = p_name (codes "p-fire") (word_small (codes "p-fire") refl refl) (omega arith)
