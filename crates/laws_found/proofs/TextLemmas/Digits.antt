-- The digits of a number spell it.
use Rattle.std.proofs.Common.{◌≡◌, ℕ, ◌+◌, ◌-◌, ◌*◌, ◌/◌, ◌%◌, ◌<◌, ◌≤◌, Bool, true, false, List, [], ◌∷◌, ◌++◌, length, refl, sym, ap, ◌∙◌, arith, length-append}
use Rattle.std.specs.Prelude.{decimal}
use Rattle.std.specs.List.{list_all}
use Rattle.std.proofs.lemmas.Bool.{and_parts, and_from, le-leb}
use Rattle.std.proofs.lemmas.List.{append-nil}
use Rattle.std.proofs.lemmas.Fmt.{decimal_by_steps_wide, length-decimal-le_wide}
use Rattle.plus_tokens.specs.Bytes.{is_digit, decimal as read_decimal}
use Rattle.plus_tokens.specs.Spelling.{Each, IsNumber}

pub each_both : (p : ℕ → Bool) (a b : List ℕ) → Each p a → Each p b → Each p (a ++ b)
each_both p [] b x y = y
each_both p (z ∷ a) b x y = let h = and_parts (p z) (list_all p a) x in and_from (p z) (list_all p (a ++ b)) h.0 (each_both p a b h.1 y)

read_last : (ds : List ℕ) (n d : ℕ) → read_decimal n (ds ++ d ∷ []) ≡ 10 * read_decimal n ds + (d - 48)
read_last [] n d = refl
read_last (e ∷ ds) n d = read_last ds (10 * n + (e - 48)) d

-- digits of a value
pub record Digits (n : ℕ) (ds : List ℕ) : Type 0 where
  pub all : Each is_digit ds
  pub value : read_decimal 0 ds ≡ n
  pub some : 0 < length ds

digit_test : (d : ℕ) → d < 10 → is_digit (48 + d) ≡ true
digit_test d lt = and_from _ _ (le-leb 48 (48 + d) (omega arith)) (le-leb (48 + d) 57 (omega arith))

one_digit : (n : ℕ) → n < 10 → Digits n ((48 + n) ∷ [])
one_digit n lt = record { all = and_from _ _ (digit_test n lt) refl; value = omega arith; some = omega arith }

more_digits : (n : ℕ) (ds : List ℕ) → 10 ≤ n → Digits (n / 10) ds → Digits n (ds ++ ((48 + n % 10) ∷ []))
more_digits n ds ge d = record {
  all = each_both is_digit ds ((48 + n % 10) ∷ []) d.all (and_from _ _ (digit_test (n % 10) (omega arith)) refl);
  value = read_last ds 0 (48 + n % 10) ∙ (let v : read_decimal 0 ds ≡ n / 10 = d.value in omega (arith, v));
  some = omega (arith, length-append ds ((48 + n % 10) ∷ []), d.some);
}

pub digits_of : (n : ℕ) → n ≤ 9223372036854775807 → Digits n (decimal n)
digits_of n le = decimal_by_steps_wide Digits one_digit more_digits n (omega arith)

number_made : (n : ℕ) (ds : List ℕ) → Digits n ds → length ds ≤ 19 → IsNumber false n 0 ds
number_made n [] d few = absurd (omega (arith, d.some))
number_made n (b ∷ bs) d few = record {
  first = b;
  others = bs;
  fraction = [];
  whole_digits = d.all;
  fraction_digits = refl;
  spelled = sym (append-nil (b ∷ bs));
  value = sym d.value ∙ ap (read_decimal 0) (sym (append-nil (b ∷ bs)));
  few_places = refl;
  whole_within = few;
  places_within = omega arith;
}

pub digits_few : (n : ℕ) → n ≤ 9223372036854775807 → length (decimal n) ≤ 19
digits_few n le = length-decimal-le_wide 19 n (omega arith) (omega arith) (omega arith)

pub number_spelled : (n : ℕ) → n ≤ 9223372036854775807 → IsNumber false n 0 (decimal n)
number_spelled n le = number_made n (decimal n) (digits_of n le) (digits_few n le)
