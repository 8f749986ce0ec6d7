-- The parts of a number in a word, by the offsets at which they end.
use Rattle.std.proofs.Common.{◌≡◌, ℕ, ◌+◌, ◌-◌, ◌*◌, ◌<◌, ◌≤◌, Bool, true, false, cond, List, [], ◌∷◌, ◌++◌, length, take, drop, Some, None, refl, sym, ◌∙◌, ap, length-drop, arith}
use Rattle.std.specs.Prelude.{◌==◌, ◌&&◌, nat_lt, nat_le, slice_index}
use Rattle.std.specs.List.{prefix_len, list_all}
use Rattle.std.proofs.lemmas.Bool.{and_parts, and_from, lt-ltb, ltb-true, leb-true, eqb-true}
use Rattle.std.proofs.lemmas.List.{append-nil, drop-drop, drop_more}
use Rattle.std.proofs.lemmas.List.Folds.{length-prefix_len}
use Rattle.std.proofs.lemmas.List.Sums.{fold-append}
use Rattle.std.proofs.Math.ListN.{drop_of_length-le}
use Rattle.std.proofs.Math.Seq.{take-length}
use Rattle.plus_tokens.specs.Bytes.{is_digit, decimal}
use Rattle.plus_tokens.specs.First.{end_of}
use Rattle.plus_tokens.specs.Numeral.{numeral, numeral_with, numeral_behind, unsigned, numeral_of}
use Rattle.plus_tokens.specs.Lowered.{lowered}
use Rattle.plus_tokens.specs.Spelling.{Each}
use Rattle.plus_tokens.proofs.Numerals.{with_few, lowered_same}

-- ---- the sign

signed : (w : List ℕ) → slice_index w 0 ≡ 45 → unsigned true (drop 1 w) ≡ numeral_of w
unfolding numeral_of
signed [] e = absurd (omega (arith, e))
signed (b ∷ bs) e = rw e refl

plain : (w : List ℕ) → (slice_index w 0 == 45) ≡ false → unsigned false w ≡ numeral_of w
unfolding numeral_of
plain [] e = refl
plain (b ∷ bs) e = rw e refl

pub with_sign : (w : List ℕ) → slice_index w 0 ≡ 45 → unsigned true (drop 1 w) ≡ numeral_of (lowered w)
with_sign w e = signed w e ∙ sym (lowered_same w)

pub without_sign : (w : List ℕ) → (slice_index w 0 == 45) ≡ false → unsigned false w ≡ numeral_of (lowered w)
without_sign w e = plain w e ∙ sym (lowered_same w)

-- ---- no number

with_none : (negative : Bool) (whole fraction : List ℕ) → (0 < length whole → length whole ≤ 19 → length fraction ≤ 9 → ⊥) → numeral_with negative whole fraction ≡ None
with_none negative whole fraction fails = at ((nat_lt 0 (length whole) && nat_le (length whole) 19) && nat_le (length fraction) 9) refl where
  at : (b : Bool) → ((nat_lt 0 (length whole) && nat_le (length whole) 19) && nat_le (length fraction) 9) ≡ b
      → cond b (Some (numeral negative (decimal 0 (whole ++ fraction)) (length fraction))) None ≡ None
  at true h =
      let both = and_parts (nat_lt 0 (length whole) && nat_le (length whole) 19) (nat_le (length fraction) 9) h in
      let first = and_parts (nat_lt 0 (length whole)) (nat_le (length whole) 19) both.0 in
      absurd (fails (ltb-true 0 (length whole) first.0) (leb-true (length whole) 19 first.1) (leb-true (length fraction) 9 both.1))
  at false h = refl

-- a point with digits behind it, as many as a number may have
record IsFraction (b : ℕ) (fraction : List ℕ) : Type 0 where
  point : b ≡ 46
  some : 0 < length fraction
  digits : Each is_digit fraction
  few : length fraction ≤ 9

point_none : (negative : Bool) (whole : List ℕ) (b : ℕ) (fraction : List ℕ) → (0 < length whole → length whole ≤ 19 → IsFraction b fraction → ⊥)
    → numeral_behind negative whole (b ∷ fraction) ≡ None
point_none negative whole b fraction fails = at (((b == 46) && nat_lt 0 (length fraction)) && list_all is_digit fraction) refl where
  at : (t : Bool) → (((b == 46) && nat_lt 0 (length fraction)) && list_all is_digit fraction) ≡ t → cond t (numeral_with negative whole fraction) None ≡ None
  at true h =
      let both = and_parts ((b == 46) && nat_lt 0 (length fraction)) (list_all is_digit fraction) h in
      let first = and_parts (b == 46) (nat_lt 0 (length fraction)) both.0 in
      with_none negative whole fraction
      (λ s f few. fails s f (record { point = eqb-true b 46 first.0; some = ltb-true 0 (length fraction) first.1; digits = both.1; few = few }))
  at false h = refl

-- ---- a number with no point

-- ---- a number with a point

all_run : (ds : List ℕ) → prefix_len is_digit ds ≡ length ds → Each is_digit ds
all_run [] e = refl
all_run (d ∷ ds) e = at (all_run ds) (is_digit d) refl e where
  at : (prefix_len is_digit ds ≡ length ds → Each is_digit ds) → (t : Bool) → is_digit d ≡ t → cond t (1 + prefix_len is_digit ds) 0 ≡ length (d ∷ ds) → Each is_digit (d ∷ ds)
  at more true h e = and_from (is_digit d) (list_all is_digit ds) h (more (omega (arith, e)))
  at more false h e = absurd (omega (arith, e))

run_all : (ds : List ℕ) → Each is_digit ds → prefix_len is_digit ds ≡ length ds
run_all [] e = refl
run_all (d ∷ ds) e = let h = and_parts (is_digit d) (list_all is_digit ds) e in rw h.0 (omega (arith, run_all ds h.1))

-- what is left of a word, and how long it is
pub left_all : (w : List ℕ) (from : ℕ) → take (length w - from) (drop from w) ≡ drop from w
left_all w from = ap (λ k. take k (drop from w)) (sym (length-drop from w)) ∙ take-length (drop from w)

-- digits, and what stands behind them
behind_at : (negative : Bool) (w : List ℕ) (first last : ℕ) → last ≡ end_of is_digit w first → last < length w
    → unsigned negative (drop first w) ≡ numeral_behind negative (take (last - first) (drop first w)) (slice_index w last ∷ drop (last + 1) w)
behind_at negative w first last e lt =
    let n : prefix_len is_digit (drop first w) ≡ last - first = omega (arith, e) in
    let rest : drop (last - first) (drop first w) ≡ slice_index w last ∷ drop (last + 1) w =
    drop-drop (last - first) first w ∙ ap (λ k. drop k w) (omega (arith, e)) ∙ drop_more w last 0 lt in
    rw (n, rest) refl

pub fraction_none : (negative : Bool) (w : List ℕ) (first last back : ℕ) → last ≡ end_of is_digit w first → last < length w → back ≡ end_of is_digit w (last + 1)
    → (slice_index w last ≡ 46 → back ≡ length w → 0 < back - (last + 1) → back - (last + 1) ≤ 9 → ⊥) → unsigned negative (drop first w) ≡ None
fraction_none negative w first last back e lt b fails =
    behind_at negative w first last e lt
    ∙ point_none negative (take (last - first) (drop first w)) (slice_index w last) (drop (last + 1) w)
    (λ some few f.
    let all = run_all (drop (last + 1) w) f.digits in
    let long = length-drop (last + 1) w in
    fails f.point (omega (arith, all, long, b, lt)) (omega (arith, all, long, b, f.some)) (omega (arith, all, long, b, f.few)))

pub fraction_some : (negative : Bool) (w : List ℕ) (first last back : ℕ) → last ≡ end_of is_digit w first → last < length w → back ≡ end_of is_digit w (last + 1)
    → 0 < last - first → last - first ≤ 19 → slice_index w last ≡ 46 → back ≡ length w → 0 < back - (last + 1) → back - (last + 1) ≤ 9
    → unsigned negative (drop first w) ≡ Some (numeral negative (decimal (decimal 0 (take (last - first) (drop first w))) (drop (last + 1) w)) (back - (last + 1)))
fraction_some negative w first last back e lt b some few point all more few_places =
    let n : prefix_len is_digit (drop first w) ≡ last - first = omega (arith, e) in
    let whole : length (take (last - first) (drop first w)) ≡ last - first = ap (λ k. length (take k (drop first w))) (sym n) ∙ length-prefix_len is_digit (drop first w) ∙ n in
    let long : length (drop (last + 1) w) ≡ back - (last + 1) = omega (arith, all, length-drop (last + 1) w) in
    let digits : Each is_digit (drop (last + 1) w) = all_run (drop (last + 1) w) (omega (arith, b, long, lt)) in
    behind_at negative w first last e lt
    ∙ rw (point, lt-ltb 0 (length (drop (last + 1) w)) (omega (arith, long, more)), digits)
    (with_few negative (take (last - first) (drop first w)) (drop (last + 1) w) (omega (arith, whole, some)) (omega (arith, whole, few)) (omega (arith, long, few_places)))
    ∙ ap (λ d. Some (numeral negative d (length (drop (last + 1) w)))) (fold-append (λ n d. 10 * n + (d - 48)) 0 (take (last - first) (drop first w)) (drop (last + 1) w))
    ∙ ap (λ k. Some (numeral negative (decimal (decimal 0 (take (last - first) (drop first w))) (drop (last + 1) w)) k)) long
