-- A word spells the number that is read from it, and no other does.
use Rattle.std.proofs.Common.{◌≡◌, ℕ, ◌<◌, ◌≤◌, Bool, true, false, cond, List, [], ◌∷◌, ◌++◌, length, Option, Some, None, refl, sym, ◌∙◌, ap, subst, ⊎_elim, arith}
use Rattle.std.specs.Prelude.{◌==◌, ◌&&◌, ◌||◌, nat_lt, nat_le}
use Rattle.std.specs.List.{prefix_len, list_all}
use Rattle.std.specs.Char.{to_ascii_lowercase}
use Rattle.std.proofs.lemmas.Bool.{cases_lt, and_parts, and_from, or_cases, or_left, lt-ltb, le-leb, ltb-true, leb-true, eqb-true}
use Rattle.std.proofs.lemmas.List.Folds.{list_all-append}
use Rattle.std.proofs.lemmas.Str.Ascii.{lowercase_is}
use Rattle.std.proofs.Math.Seq.{take-append_seam, drop-append_seam}
use Rattle.plus_tokens.specs.declared.numeral.Numeral.{Numeral}
use Rattle.plus_tokens.specs.Bytes.{is_digit, decimal}
use Rattle.plus_tokens.specs.Lowered.{lowered}
use Rattle.plus_tokens.specs.Numeral.{numeral, numeral_with, numeral_behind, unsigned, numeral_of}
use Rattle.plus_tokens.specs.Spelling.{Each, begins, sign_of, point_and, IsNumber}
use Rattle.plus_tokens.proofs.Runs.{apart, prefix_run}
use Rattle.plus_tokens.proofs.Split.{Run, run_of}

-- ---- what is spelled is the number

-- a number whose digits are known
pub unsigned_run : (negative : Bool) (bytes run rest : List ℕ) → bytes ≡ run ++ rest → Each is_digit run → begins is_digit rest ≡ false → unsigned negative bytes ≡ numeral_behind negative run rest
unsigned_run negative bytes run rest e all stop =
    let long : prefix_len is_digit bytes ≡ length run = ap (prefix_len is_digit) e ∙ prefix_run is_digit run rest all stop in
    rw (long, e, take-append_seam run rest, drop-append_seam run rest) refl

pub with_few : (negative : Bool) (whole fraction : List ℕ) → 0 < length whole → length whole ≤ 19 → length fraction ≤ 9
    → numeral_with negative whole fraction ≡ Some (numeral negative (decimal 0 (whole ++ fraction)) (length fraction))
with_few negative whole fraction some few few_places =
    rw (lt-ltb 0 (length whole) some, le-leb (length whole) 19 few, le-leb (length fraction) 9 few_places) refl

pub behind_point : (negative : Bool) (whole fraction : List ℕ) → Each is_digit fraction → 0 < length whole → length whole ≤ 19 → length fraction ≤ 9
    → numeral_behind negative whole (point_and fraction) ≡ Some (numeral negative (decimal 0 (whole ++ fraction)) (length fraction))
behind_point negative whole [] more some few few_places = with_few negative whole [] some few few_places
behind_point negative whole (d ∷ ds) more some few few_places =
    rw (lt-ltb 0 (length (d ∷ ds)) (omega arith), more) (with_few negative whole (d ∷ ds) some few few_places)

point_is_no_digit : (fraction : List ℕ) → begins is_digit (point_and fraction) ≡ false
point_is_no_digit [] = refl
point_is_no_digit (d ∷ ds) = refl

spelled_unsigned : (negative : Bool) (digits places : ℕ) (bytes : List ℕ) (n : IsNumber negative digits places bytes)
    → unsigned negative ((n.first ∷ n.others) ++ point_and n.fraction) ≡ Some (numeral negative digits places)
spelled_unsigned negative digits places bytes n =
    unsigned_run negative ((n.first ∷ n.others) ++ point_and n.fraction) (n.first ∷ n.others) (point_and n.fraction) refl n.whole_digits (point_is_no_digit n.fraction)
    ∙ behind_point negative (n.first ∷ n.others) n.fraction n.fraction_digits (omega arith) n.whole_within (subst (λ k. k ≤ 9) n.few_places n.places_within)
    ∙ ap (λ d. Some (numeral negative d (length n.fraction))) (sym n.value) ∙ ap (λ p. Some (numeral negative digits p)) (sym n.few_places)

pub spelled_is_numeral : (negative : Bool) (digits places : ℕ) (bytes : List ℕ) → IsNumber negative digits places bytes → numeral_of bytes ≡ Some (numeral negative digits places)
unfolding numeral_of
spelled_is_numeral false digits places bytes n =
    let digit : is_digit n.first ≡ true = (and_parts (is_digit n.first) (list_all is_digit n.others) n.whole_digits).0 in
    rw (n.spelled, apart is_digit 45 n.first refl digit) (spelled_unsigned false digits places bytes n)
spelled_is_numeral true digits places bytes n = rw n.spelled (spelled_unsigned true digits places bytes n)

-- ---- and what is a number is spelled

some_is : (a b : Numeral) → ◌≡◌ {A = Option Numeral} (Some a) (Some b) → a ≡ b
some_is a b e = cc

abbrev Spelled : Numeral → List ℕ → Type 0
Spelled n bytes = IsNumber n.negative n.digits n.places bytes

with_spelled : (negative : Bool) (whole fraction : List ℕ) (n : Numeral) → Each is_digit whole → Each is_digit fraction → numeral_with negative whole fraction ≡ Some n
    → (bytes : List ℕ) → bytes ≡ sign_of negative ++ (whole ++ point_and fraction) → Spelled n bytes
with_spelled negative whole fraction n all more e bytes is = at ((nat_lt 0 (length whole) && nat_le (length whole) 19) && nat_le (length fraction) 9) refl e where
  made : (whole : List ℕ) → Each is_digit whole → 0 < length whole → length whole ≤ 19 → length fraction ≤ 9 → bytes ≡ sign_of negative ++ (whole ++ point_and fraction)
      → IsNumber negative (decimal 0 (whole ++ fraction)) (length fraction) bytes
  made [] all some few few_places is = absurd (omega arith)
  made (f ∷ os) all some few few_places is = record {
    first = f;
    others = os;
    fraction = fraction;
    whole_digits = all;
    fraction_digits = more;
    spelled = is;
    value = refl;
    few_places = refl;
    whole_within = few;
    places_within = few_places;
  }

  at : (b : Bool) → ((nat_lt 0 (length whole) && nat_le (length whole) 19) && nat_le (length fraction) 9) ≡ b
      → cond b (Some (numeral negative (decimal 0 (whole ++ fraction)) (length fraction))) None ≡ Some n → Spelled n bytes
  at true h e =
      let both = and_parts (nat_lt 0 (length whole) && nat_le (length whole) 19) (nat_le (length fraction) 9) h in
      let first = and_parts (nat_lt 0 (length whole)) (nat_le (length whole) 19) both.0 in
      subst (λ (m : Numeral). Spelled m bytes) (some_is (numeral negative (decimal 0 (whole ++ fraction)) (length fraction)) n e)
      (made whole all (ltb-true 0 (length whole) first.0) (leb-true (length whole) 19 first.1) (leb-true (length fraction) 9 both.1) is)
  at false h e = absurd cc

point_some : (fraction : List ℕ) → 0 < length fraction → point_and fraction ≡ 46 ∷ fraction
point_some [] lt = absurd (omega arith)
point_some (d ∷ ds) lt = refl

behind_spelled : (negative : Bool) (whole rest : List ℕ) (n : Numeral) → Each is_digit whole → numeral_behind negative whole rest ≡ Some n
    → (bytes : List ℕ) → bytes ≡ sign_of negative ++ (whole ++ rest) → Spelled n bytes
behind_spelled negative whole [] n all e bytes is = with_spelled negative whole [] n all refl e bytes is
behind_spelled negative whole (b ∷ fraction) n all e bytes is = at (((b == 46) && nat_lt 0 (length fraction)) && list_all is_digit fraction) refl e where
  at : (t : Bool) → (((b == 46) && nat_lt 0 (length fraction)) && list_all is_digit fraction) ≡ t → cond t (numeral_with negative whole fraction) None ≡ Some n → Spelled n bytes
  at true h e =
      let both = and_parts ((b == 46) && nat_lt 0 (length fraction)) (list_all is_digit fraction) h in
      let first = and_parts (b == 46) (nat_lt 0 (length fraction)) both.0 in
      with_spelled negative whole fraction n all both.1 e bytes
      (is ∙ ap (λ c. sign_of negative ++ (whole ++ (c ∷ fraction))) (eqb-true b 46 first.0)
      ∙ ap (λ l. sign_of negative ++ (whole ++ l)) (sym (point_some fraction (ltb-true 0 (length fraction) first.1))))
  at false h e = absurd cc

unsigned_spelled : (negative : Bool) (rest : List ℕ) (n : Numeral) → unsigned negative rest ≡ Some n → (bytes : List ℕ) → bytes ≡ sign_of negative ++ rest → Spelled n bytes
unsigned_spelled negative rest n e bytes is =
    let r : Run is_digit rest = run_of is_digit rest in
    behind_spelled negative r.run r.rest n r.all (sym (unsigned_run negative rest r.run r.rest r.parts r.all r.stop) ∙ e) bytes (is ∙ ap (λ l. sign_of negative ++ l) r.parts)

pub numeral_is_spelled : (bytes : List ℕ) (n : Numeral) → numeral_of bytes ≡ Some n → IsNumber n.negative n.digits n.places bytes
unfolding numeral_of
numeral_is_spelled [] n e = absurd cc
numeral_is_spelled (b ∷ bs) n e = at (b == 45) refl e where
  at : (t : Bool) → (b == 45) ≡ t → cond t (unsigned true bs) (unsigned false (b ∷ bs)) ≡ Some n → Spelled n (b ∷ bs)
  at true h e = unsigned_spelled true bs n e (b ∷ bs) (ap (λ c. c ∷ bs) (eqb-true b 45 h))
  at false h e = unsigned_spelled false (b ∷ bs) n e (b ∷ bs) refl

-- ---- small letters change no number

-- a digit, a sign or a point
abbrev is_plain : ℕ → Bool
is_plain b = is_digit b || ((b == 45) || (b == 46))

plain_low : (b : ℕ) → is_plain b ≡ true → b < 65
plain_low b e =
    ⊎_elim (λ d. let le = leb-true b 57 (and_parts (nat_le 48 b) (nat_le b 57) d).1 in omega (arith, le))
    (λ s. ⊎_elim (λ h. let same = eqb-true b 45 h in omega (arith, same)) (λ h. let same = eqb-true b 46 h in omega (arith, same)) (or_cases (b == 45) (b == 46) s))
    (or_cases (is_digit b) ((b == 45) || (b == 46)) e)

small_is : (b : ℕ) → is_plain (to_ascii_lowercase b) ≡ true → to_ascii_lowercase b ≡ b
small_is b e =
    let low : to_ascii_lowercase b < 65 = plain_low (to_ascii_lowercase b) e in
    ⊎_elim (λ lt. (lowercase_is b).1 lt)
    (λ ge. ⊎_elim (λ gt. (lowercase_is b).2 gt) (λ le. absurd (let h = (lowercase_is b).0 (ge, le) in omega (arith, h, low))) (cases_lt 90 b))
    (cases_lt b 65)

plain_same : (w : List ℕ) → Each is_plain w → lowered w ≡ w
plain_same [] all = refl
plain_same (b ∷ bs) all =
    let h = and_parts (is_plain b) (list_all is_plain bs) all in
    cc ((lowercase_is b).1 (plain_low b h.0), plain_same bs h.1)

small_same : (w : List ℕ) → Each is_plain (lowered w) → lowered w ≡ w
small_same [] all = refl
small_same (b ∷ bs) all =
    let h = and_parts (is_plain (to_ascii_lowercase b)) (list_all is_plain (lowered bs)) all in
    cc (small_is b h.0, small_same bs h.1)

digits_plain : (ds : List ℕ) → Each is_digit ds → Each is_plain ds
digits_plain [] all = refl
digits_plain (d ∷ ds) all =
    let h = and_parts (is_digit d) (list_all is_digit ds) all in
    and_from (is_plain d) (list_all is_plain ds) (or_left (is_digit d) ((d == 45) || (d == 46)) h.0) (digits_plain ds h.1)

both_plain : (a b : List ℕ) → Each is_plain a → Each is_plain b → Each is_plain (a ++ b)
both_plain a b x y = list_all-append is_plain a b ∙ and_from (list_all is_plain a) (list_all is_plain b) x y

point_plain : (fraction : List ℕ) → Each is_digit fraction → Each is_plain (point_and fraction)
point_plain [] all = refl
point_plain (d ∷ ds) all = digits_plain (d ∷ ds) all

sign_plain : (negative : Bool) → Each is_plain (sign_of negative)
sign_plain true = refl
sign_plain false = refl

number_plain : (negative : Bool) (digits places : ℕ) (bytes : List ℕ) → IsNumber negative digits places bytes → Each is_plain bytes
number_plain negative digits places bytes n =
    rw n.spelled
    (both_plain (sign_of negative) ((n.first ∷ n.others) ++ point_and n.fraction) (sign_plain negative)
    (both_plain (n.first ∷ n.others) (point_and n.fraction) (digits_plain (n.first ∷ n.others) n.whole_digits) (point_plain n.fraction n.fraction_digits)))

pub lowered_same : (w : List ℕ) → numeral_of (lowered w) ≡ numeral_of w
lowered_same w = at (numeral_of (lowered w)) (numeral_of w) refl refl where
  at : (a b : Option Numeral) → numeral_of (lowered w) ≡ a → numeral_of w ≡ b → a ≡ b
  at None None ea eb = refl
  at None (Some n) ea eb =
      sym ea ∙ ap numeral_of (plain_same w (number_plain n.negative n.digits n.places w (numeral_is_spelled w n eb))) ∙ eb
  at (Some n) b ea eb =
      sym ea ∙ ap numeral_of (small_same w (number_plain n.negative n.digits n.places (lowered w) (numeral_is_spelled (lowered w) n ea))) ∙ eb

-- a number that is spelled, in small letters
pub spelled_lowered : (negative : Bool) (digits places : ℕ) (bytes : List ℕ) → IsNumber negative digits places bytes → numeral_of (lowered bytes) ≡ Some (numeral negative digits places)
spelled_lowered negative digits places bytes n = lowered_same bytes ∙ spelled_is_numeral negative digits places bytes n
