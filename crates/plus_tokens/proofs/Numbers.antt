-- A number that is spelled is the one that is read.
use Rattle.std.proofs.Common.{◌≡◌, ◌⊎◌, ℕ, ◌+◌, ◌-◌, ◌≤◌, Bool, true, false, cond, not, List, [], ◌∷◌, ◌++◌, length, drop, Result, Ok, Err, refl, sym, ◌∙◌, ap, inl, inr, length-append, length-drop, arith}
use Rattle.std.specs.Prelude.{◌==◌, ◌&&◌, ◌||◌, nat_lt, slice_index}
use Rattle.std.specs.List.{prefix_len}
use Rattle.std.proofs.lemmas.Bool.{true≢false, le-ltb}
use Rattle.std.proofs.lemmas.List.{append-nil}
use Rattle.std.proofs.Math.Dec.{eqb-suc-zero}
use Rattle.plus_tokens.specs.declared.token.Kind.TheVariants as kinds
use Rattle.plus_tokens.specs.declared.token.Token.{Token}
use Rattle.plus_tokens.specs.declared.token.LexFault.{LexFault}
use Rattle.plus_tokens.specs.declared.token.LexFault.TheVariants.{BadByte, TooLong}
use Rattle.plus_tokens.specs.Bytes.{is_digit, ends_number}
use Rattle.plus_tokens.specs.First.{end_of, number_at, has_point, number_end, places_at}
use Rattle.plus_tokens.specs.Spelling.{Each, begins, point_and}
use Rattle.plus_tokens.proofs.Runs.{apart, prefix_run, behind, begins_at}

digit_ends_no : (b : ℕ) → is_digit b ≡ true → ends_number b ≡ false
digit_ends_no b d =
    rw (
      apart is_digit 32 b refl d,
      apart is_digit 9 b refl d,
      apart is_digit 13 b refl d,
      apart is_digit 10 b refl d,
      apart is_digit 40 b refl d,
      apart is_digit 41 b refl d,
      apart is_digit 91 b refl d,
      apart is_digit 93 b refl d,
      apart is_digit 58 b refl d,
      apart is_digit 47 b refl d,
      apart is_digit 59 b refl d,
    ) refl

no_digit : (b : ℕ) → ends_number b ≡ true → is_digit b ≡ false
no_digit b e = at (is_digit b) refl where
  at : (t : Bool) → is_digit b ≡ t → is_digit b ≡ false
  at false d = d
  at true d = absurd (true≢false (sym e ∙ digit_ends_no b d))

-- before what a number may end, no digit stands and no point
pub no_digit_follows : (rest : List ℕ) → (rest ≡ []) ⊎ (begins ends_number rest ≡ true) → begins is_digit rest ≡ false
no_digit_follows rest (inl e) = ap (begins is_digit) e
no_digit_follows [] (inr e) = refl
no_digit_follows (b ∷ bs) (inr e) = no_digit b e

no_point_follows : (rest : List ℕ) → (rest ≡ []) ⊎ (begins ends_number rest ≡ true) → begins (λ b. b == 46) rest ≡ false
no_point_follows rest (inl e) = ap (begins (λ b. b == 46)) e
no_point_follows [] (inr e) = refl
no_point_follows (b ∷ bs) (inr e) = apart ends_number 46 b refl e

-- so the number is not badly ended
well_ended : (text : List ℕ) (n : ℕ) (rest : List ℕ) → drop n text ≡ rest → (rest ≡ []) ⊎ (begins ends_number rest ≡ true)
    → (nat_lt n (length text) && not (ends_number (slice_index text n))) ≡ false
well_ended text n rest e (inl none) =
    let past : nat_lt n (length text) ≡ false = le-ltb n (length text) (omega (arith, length-drop n text, ap length (e ∙ none))) in
    rw past refl
well_ended text n rest e (inr ends) =
    let good : ends_number (slice_index text n) ≡ true = begins_at ends_number text n rest refl e ∙ ends in
    rw good (and_false (nat_lt n (length text)))
  where
    and_false : (b : Bool) → (b && false) ≡ false
    and_false true = refl
    and_false false = refl

abbrev number_token : ℕ → ℕ → Result Token LexFault
number_token at last = Ok (record { kind = kinds.Number; start = at; «end» = last })

-- what is read where each part of a number is known
pub number_parts : (text : List ℕ) (at first whole_end last places : ℕ) (point : Bool)
    → end_of is_digit text first ≡ whole_end → has_point text first ≡ point → number_end text first ≡ last → places_at text first ≡ places
    → number_at text at first ≡ cond (nat_lt 19 (whole_end - first) || nat_lt 9 places) (Err (TooLong at))
    (cond (point && (places == 0)) (Err (BadByte whole_end))
    (cond (nat_lt last (length text) && not (ends_number (slice_index text last))) (Err (BadByte last))
    (number_token at last)))
unfolding number_at
number_parts text at first whole_end last places point e p l n = rw (n, l, p, e) refl

-- what is read where no point stands behind the digits
pub whole_parts : (text : List ℕ) (at first : ℕ) (whole rest : List ℕ)
    → drop first text ≡ whole ++ rest → Each is_digit whole → begins is_digit rest ≡ false → begins (λ b. b == 46) rest ≡ false
    → number_at text at first ≡ cond (nat_lt 19 (length whole) || nat_lt 9 0) (Err (TooLong at))
    (cond (false && (0 == 0)) (Err (BadByte (first + length whole)))
    (cond (nat_lt (first + length whole) (length text) && not (ends_number (slice_index text (first + length whole)))) (Err (BadByte (first + length whole)))
    (number_token at (first + length whole))))
whole_parts text at first whole rest e digits stop no_point =
    let run : end_of is_digit text first ≡ first + length whole = ap (λ n. first + n) (ap (prefix_len is_digit) e ∙ prefix_run is_digit whole rest digits stop) in
    let left : drop (first + length whole) text ≡ rest = behind text first whole rest e in
    let pointless : has_point text first ≡ false =
    ap (λ n. slice_index text n == 46) run ∙ begins_at (λ b. b == 46) text (first + length whole) rest refl left ∙ no_point in
    let last : number_end text first ≡ first + length whole = rw pointless run in
    let none : places_at text first ≡ 0 = rw (last, run) (omega arith) in
    let long : first + length whole - first ≡ length whole = omega arith in
    number_parts text at first (first + length whole) (first + length whole) 0 false run pointless last none
    ∙ rw long refl

-- what is read where a point stands there, and some digits behind it, or none
pub point_parts : (text : List ℕ) (at first : ℕ) (whole fraction rest : List ℕ)
    → drop first text ≡ whole ++ (46 ∷ (fraction ++ rest)) → Each is_digit whole → Each is_digit fraction → begins is_digit rest ≡ false
    → number_at text at first ≡ cond (nat_lt 19 (length whole) || nat_lt 9 (length fraction)) (Err (TooLong at))
    (cond (true && (length fraction == 0)) (Err (BadByte (first + length whole)))
    (cond (nat_lt (first + length whole + 1 + length fraction) (length text) && not (ends_number (slice_index text (first + length whole + 1 + length fraction)))) (Err (BadByte (first + length whole + 1 + length fraction)))
    (number_token at (first + length whole + 1 + length fraction))))
point_parts text at first whole fraction rest e digits more stop =
    let run : end_of is_digit text first ≡ first + length whole = ap (λ n. first + n) (ap (prefix_len is_digit) e ∙ prefix_run is_digit whole (46 ∷ (fraction ++ rest)) digits refl) in
    let left : drop (first + length whole) text ≡ 46 ∷ (fraction ++ rest) = behind text first whole (46 ∷ (fraction ++ rest)) e in
    let left' : drop (first + length whole + 1) text ≡ fraction ++ rest = behind text (first + length whole) (46 ∷ []) (fraction ++ rest) left in
    let point : has_point text first ≡ true =
    ap (λ n. slice_index text n == 46) run ∙ begins_at (λ b. b == 46) text (first + length whole) (46 ∷ (fraction ++ rest)) refl left in
    let run' : end_of is_digit text (first + length whole + 1) ≡ first + length whole + 1 + length fraction =
    ap (λ n. first + length whole + 1 + n) (ap (prefix_len is_digit) left' ∙ prefix_run is_digit fraction rest more stop) in
    let last : number_end text first ≡ first + length whole + 1 + length fraction = rw (point, run) run' in
    let places : places_at text first ≡ length fraction = rw (last, run) (omega arith) in
    let long : first + length whole - first ≡ length whole = omega arith in
    number_parts text at first (first + length whole) (first + length whole + 1 + length fraction) (length fraction) true run point last places
    ∙ rw long refl

-- a number with no point
whole_number : (text : List ℕ) (at first : ℕ) (whole rest : List ℕ)
    → drop first text ≡ whole ++ rest → Each is_digit whole → (rest ≡ []) ⊎ (begins ends_number rest ≡ true) → length whole ≤ 19
    → number_at text at first ≡ number_token at (first + length whole)
whole_number text at first whole rest e digits ends few =
    whole_parts text at first whole rest e digits (no_digit_follows rest ends) (no_point_follows rest ends)
    ∙ rw (le-ltb 19 (length whole) few, well_ended text (first + length whole) rest (behind text first whole rest e) ends) refl

-- a number with a point and digits behind it
point_number : (text : List ℕ) (at first d : ℕ) (whole ds rest : List ℕ)
    → drop first text ≡ whole ++ (46 ∷ ((d ∷ ds) ++ rest)) → Each is_digit whole → Each is_digit (d ∷ ds) → (rest ≡ []) ⊎ (begins ends_number rest ≡ true)
    → length whole ≤ 19 → length (d ∷ ds) ≤ 9
    → number_at text at first ≡ number_token at (first + length whole + 1 + length (d ∷ ds))
point_number text at first d whole ds rest e digits more ends few few_places =
    let left : drop (first + length whole + 1) text ≡ (d ∷ ds) ++ rest =
    behind text (first + length whole) (46 ∷ []) ((d ∷ ds) ++ rest) (behind text first whole (46 ∷ ((d ∷ ds) ++ rest)) e) in
    point_parts text at first whole (d ∷ ds) rest e digits more (no_digit_follows rest ends)
    ∙ rw (
      le-ltb 19 (length whole) few,
      le-ltb 9 (length (d ∷ ds)) few_places,
      eqb-suc-zero (length ds),
      well_ended text (first + length whole + 1 + length (d ∷ ds)) rest (behind text (first + length whole + 1) (d ∷ ds) rest left) ends,
    ) refl

-- a number is read as it is spelled
pub number_read : (text : List ℕ) (at first : ℕ) (whole fraction rest : List ℕ)
    → drop first text ≡ whole ++ (point_and fraction ++ rest) → Each is_digit whole → Each is_digit fraction → (rest ≡ []) ⊎ (begins ends_number rest ≡ true)
    → length whole ≤ 19 → length fraction ≤ 9
    → number_at text at first ≡ Ok (record { kind = kinds.Number; start = at; «end» = first + length (whole ++ point_and fraction) })
number_read text at first whole [] rest e digits more ends few few_places =
    whole_number text at first whole rest e digits ends few
    ∙ ap (number_token at) (ap (λ n. first + n) (ap length (sym (append-nil whole))))
number_read text at first whole (d ∷ ds) rest e digits more ends few few_places =
    point_number text at first d whole ds rest e digits more ends few few_places
    ∙ ap (number_token at) (omega (arith, length-append whole (46 ∷ d ∷ ds)))
