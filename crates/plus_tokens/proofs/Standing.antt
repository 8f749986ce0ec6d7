-- What is spelled at an offset is the token that is read there.
use Rattle.std.proofs.Common.{◌≡◌, ◌⊎◌, ℕ, ◌+◌, ◌≤◌, Bool, true, false, List, [], ◌∷◌, ◌++◌, length, drop, Result, Ok, refl, ◌∙◌, ap, subst, inl, inr, append_assoc, arith}
use Rattle.std.specs.Prelude.{◌==◌, ◌&&◌, ◌||◌, nat_lt, nat_le, slice_index}
use Rattle.std.specs.List.{prefix_len, list_all}
use Rattle.std.proofs.lemmas.Bool.{and_parts, and_from, or_left, or_cases, le-ltb, leb-true}
use Rattle.plus_tokens.specs.declared.token.Op.{Op}
use Rattle.plus_tokens.specs.declared.token.Op.TheVariants.{Plus, Minus, Times, Divide, Less, AtMost, Equal, AtLeast, Greater}
use Rattle.plus_tokens.specs.declared.token.Kind.{Kind}
use Rattle.plus_tokens.specs.declared.token.Kind.TheVariants as kinds
use Rattle.plus_tokens.specs.declared.token.Kind.TheVariants.{Open, Close, OpenSquare, CloseSquare, Colon, Name, Variable, Keyword, Number, Clock, End}
use Rattle.plus_tokens.specs.declared.token.Token.{Token}
use Rattle.plus_tokens.specs.declared.token.LexFault.{LexFault}
use Rattle.plus_tokens.specs.Bytes.{is_blank, is_letter, is_digit, is_name_byte, ends_number}
use Rattle.plus_tokens.specs.First.{word_at, sized, token_at, is_letter_of}
use Rattle.plus_tokens.specs.Spelling.{Each, begins, IsName, IsNumber, point_and, op_bytes, Spells, EndsOp, Ends}
use Rattle.plus_tokens.proofs.Runs.{apart, no_blank, prefix_run, head_at, behind, begins_at}
use Rattle.plus_tokens.proofs.Numbers.{number_read}

-- the token of a kind with these bytes, at an offset
abbrev pub spot : Kind → ℕ → List ℕ → Result Token LexFault
spot kind at bytes = Ok (record { kind = kind; start = at; «end» = at + length bytes })

-- ---- words

pub letter_is_name_byte : (b : ℕ) → is_letter b ≡ true → is_name_byte b ≡ true
letter_is_name_byte b e = or_left (is_letter b || is_digit b) _ (or_left (is_letter b) (is_digit b) e)

word_stands : (kind : Kind) (text : List ℕ) (at name : ℕ) (bytes rest : List ℕ) → IsName bytes → drop name text ≡ bytes ++ rest → begins is_name_byte rest ≡ false
    → word_at kind text at name ≡ Ok (record { kind = kind; start = at; «end» = name + length bytes })
unfolding word_at
word_stands kind text at name bytes rest n e stop =
    let all : Each is_name_byte bytes =
    rw n.spelled (and_from (is_name_byte n.first) (list_all is_name_byte n.others) (letter_is_name_byte n.first n.letter) n.name_bytes) in
    let run : prefix_len is_name_byte (drop name text) ≡ length bytes = ap (prefix_len is_name_byte) e ∙ prefix_run is_name_byte bytes rest all stop in
    let few : nat_lt 64 (length bytes) ≡ false = le-ltb 64 (length bytes) n.within in
    rw (run, few) refl

name_begins : (text : List ℕ) (at : ℕ) (bytes rest : List ℕ) (n : IsName bytes) → drop at text ≡ bytes ++ rest → slice_index text at ≡ n.first
name_begins text at bytes rest n e = head_at text at n.first (n.others ++ rest) (e ∙ ap (λ l. l ++ rest) n.spelled)

name_stands : (text : List ℕ) (at : ℕ) (bytes rest : List ℕ) → IsName bytes → drop at text ≡ bytes ++ rest → begins is_name_byte rest ≡ false
    → token_at text at (slice_index text at) ≡ spot kinds.Name at bytes
unfolding token_at
name_stands text at bytes rest n e stop = rw (name_begins text at bytes rest n e, n.letter) (word_stands kinds.Name text at at bytes rest n e stop)

-- one byte and then a name
marked_stands : (kind : Kind) (mark : ℕ) (text : List ℕ) (at : ℕ) (name bytes rest : List ℕ) → IsName name → bytes ≡ mark ∷ name → drop at text ≡ bytes ++ rest → begins is_name_byte rest ≡ false
    → (is_letter (slice_index text (at + 1)) ≡ true → token_at text at mark ≡ word_at kind text at (at + 1)) → token_at text at (slice_index text at) ≡ spot kind at bytes
marked_stands kind mark text at name bytes rest n is e stop looks =
    let e' : drop at text ≡ mark ∷ (name ++ rest) = e ∙ ap (λ l. l ++ rest) is in
    let next : drop (at + 1) text ≡ name ++ rest = behind text at (mark ∷ []) (name ++ rest) e' in
    let letter : is_letter (slice_index text (at + 1)) ≡ true = ap is_letter (name_begins text (at + 1) name rest n next) ∙ n.letter in
    let long : at + 1 + length name ≡ at + length bytes = omega (arith, ap length is) in
    rw (head_at text at mark (name ++ rest) e') (looks letter ∙ word_stands kind text at (at + 1) name rest n next stop
    ∙ ap (λ (n : ℕ). Ok (record { kind = kind; start = at; «end» = n })) long)

-- ---- signs

sign_stands : (kind : Kind) (b : ℕ) (text : List ℕ) (at : ℕ) (bytes rest : List ℕ) → bytes ≡ b ∷ [] → drop at text ≡ bytes ++ rest
    → (drop (at + 1) text ≡ rest → token_at text at b ≡ sized kind at 1) → token_at text at (slice_index text at) ≡ spot kind at bytes
sign_stands kind b text at bytes rest is e looks =
    let e' : drop at text ≡ b ∷ rest = e ∙ ap (λ l. l ++ rest) is in
    rw (head_at text at b rest e', is) (looks (behind text at (b ∷ []) rest e'))

pair_stands : (kind : Kind) (b c : ℕ) (text : List ℕ) (at : ℕ) (bytes rest : List ℕ) → bytes ≡ b ∷ c ∷ [] → drop at text ≡ bytes ++ rest
    → (drop (at + 1) text ≡ c ∷ rest → drop (at + 2) text ≡ rest → token_at text at b ≡ sized kind at 2) → token_at text at (slice_index text at) ≡ spot kind at bytes
pair_stands kind b c text at bytes rest is e looks =
    let e' : drop at text ≡ b ∷ c ∷ rest = e ∙ ap (λ l. l ++ rest) is in
    rw (head_at text at b (c ∷ rest) e', is) (looks (behind text at (b ∷ []) (c ∷ rest) e') (behind text at (b ∷ c ∷ []) rest e'))

op_stands : (op : Op) (text : List ℕ) (at : ℕ) (bytes rest : List ℕ) → bytes ≡ op_bytes op → EndsOp op rest → drop at text ≡ bytes ++ rest
    → token_at text at (slice_index text at) ≡ spot (kinds.Op op) at bytes
unfolding token_at
op_stands Plus text at bytes rest is ends e = sign_stands (kinds.Op Plus) 43 text at bytes rest is e (λ _. refl)
op_stands Minus text at bytes rest is ends e =
    sign_stands (kinds.Op Minus) 45 text at bytes rest is e (λ next. rw (begins_at is_digit text (at + 1) rest refl next, ends) refl)
op_stands Times text at bytes rest is ends e = sign_stands (kinds.Op Times) 42 text at bytes rest is e (λ _. refl)
op_stands Divide text at bytes rest is ends e = sign_stands (kinds.Op Divide) 47 text at bytes rest is e (λ _. refl)
op_stands Less text at bytes rest is ends e =
    sign_stands (kinds.Op Less) 60 text at bytes rest is e (λ next. rw (begins_at (λ b. b == 61) text (at + 1) rest refl next, ends) refl)
op_stands AtMost text at bytes rest is ends e =
    pair_stands (kinds.Op AtMost) 60 61 text at bytes rest is e (λ next _. rw (begins_at (λ b. b == 61) text (at + 1) (61 ∷ rest) refl next) refl)
op_stands Equal text at bytes rest is ends e = sign_stands (kinds.Op Equal) 61 text at bytes rest is e (λ _. refl)
op_stands AtLeast text at bytes rest is ends e =
    pair_stands (kinds.Op AtLeast) 62 61 text at bytes rest is e (λ next _. rw (begins_at (λ b. b == 61) text (at + 1) (61 ∷ rest) refl next) refl)
op_stands Greater text at bytes rest is ends e =
    sign_stands (kinds.Op Greater) 62 text at bytes rest is e (λ next. rw (begins_at (λ b. b == 61) text (at + 1) rest refl next, ends) refl)

clock_stands : (text : List ℕ) (at t : ℕ) (bytes rest : List ℕ) → is_letter_of 116 t ≡ true → bytes ≡ 35 ∷ t ∷ [] → begins is_name_byte rest ≡ false → drop at text ≡ bytes ++ rest
    → token_at text at (slice_index text at) ≡ spot kinds.Clock at bytes
unfolding token_at
clock_stands text at t bytes rest letter is stop e =
    pair_stands kinds.Clock 35 t text at bytes rest is e
    (λ next left.
    let one : is_letter_of 116 (slice_index text (at + 1)) ≡ true = ap (is_letter_of 116) (head_at text (at + 1) t rest next) ∙ letter in
    let two : is_name_byte (slice_index text (at + 2)) ≡ false = begins_at is_name_byte text (at + 2) rest refl left ∙ stop in
    rw (one, two) refl)

end_stands : (text : List ℕ) (at a n d : ℕ) (bytes rest : List ℕ) → is_letter_of 101 a ≡ true → is_letter_of 110 n ≡ true → is_letter_of 100 d ≡ true
    → bytes ≡ 64 ∷ a ∷ n ∷ d ∷ [] → begins is_name_byte rest ≡ false → drop at text ≡ bytes ++ rest → token_at text at (slice_index text at) ≡ spot kinds.End at bytes
unfolding token_at
end_stands text at a n d bytes rest la ln ld is stop e =
    let e' : drop at text ≡ 64 ∷ a ∷ n ∷ d ∷ rest = e ∙ ap (λ l. l ++ rest) is in
    let one : is_letter_of 101 (slice_index text (at + 1)) ≡ true = ap (is_letter_of 101) (head_at text (at + 1) a (n ∷ d ∷ rest) (behind text at (64 ∷ []) (a ∷ n ∷ d ∷ rest) e')) ∙ la in
    let two : is_letter_of 110 (slice_index text (at + 2)) ≡ true = ap (is_letter_of 110) (head_at text (at + 2) n (d ∷ rest) (behind text at (64 ∷ a ∷ []) (n ∷ d ∷ rest) e')) ∙ ln in
    let three : is_letter_of 100 (slice_index text (at + 3)) ≡ true = ap (is_letter_of 100) (head_at text (at + 3) d rest (behind text at (64 ∷ a ∷ n ∷ []) (d ∷ rest) e')) ∙ ld in
    let four : is_name_byte (slice_index text (at + 4)) ≡ false = begins_at is_name_byte text (at + 4) rest refl (behind text at (64 ∷ a ∷ n ∷ d ∷ []) rest e') ∙ stop in
    rw (head_at text at 64 (a ∷ n ∷ d ∷ rest) e', is, one, two, three, four) refl

-- ---- numbers

digit_is_no_letter : (b : ℕ) → is_digit b ≡ true → is_letter b ≡ false
digit_is_no_letter b e = at (is_letter b) refl where
  at : (t : Bool) → is_letter b ≡ t → is_letter b ≡ false
  at false l = l
  at true l =
      let d = leb-true b 57 (and_parts (nat_le 48 b) (nat_le b 57) e).1 in
      elim (or_cases (nat_le 65 b && nat_le b 90) (nat_le 97 b && nat_le b 122) l) [
        | inl h ↦ let m = leb-true 65 b (and_parts (nat_le 65 b) (nat_le b 90) h).0 in absurd (omega (arith, d, m))
        | inr h ↦ let m = leb-true 97 b (and_parts (nat_le 97 b) (nat_le b 122) h).0 in absurd (omega (arith, d, m))
      ]

number_stands : (negative : Bool) (digits places : ℕ) (text : List ℕ) (at : ℕ) (bytes rest : List ℕ) → IsNumber negative digits places bytes
    → (rest ≡ []) ⊎ (begins ends_number rest ≡ true) → drop at text ≡ bytes ++ rest → token_at text at (slice_index text at) ≡ spot kinds.Number at bytes
unfolding token_at
number_stands false digits places text at bytes rest n ends e =
    let parts : drop at text ≡ (n.first ∷ n.others) ++ (point_and n.fraction ++ rest) =
    e ∙ ap (λ l. l ++ rest) n.spelled ∙ append_assoc (n.first ∷ n.others) (point_and n.fraction) rest in
    let digit : is_digit n.first ≡ true = (and_parts (is_digit n.first) (list_all is_digit n.others) n.whole_digits).0 in
    rw (head_at text at n.first (n.others ++ (point_and n.fraction ++ rest)) parts, digit_is_no_letter n.first digit, digit)
    (rw n.spelled (number_read text at at (n.first ∷ n.others) n.fraction rest parts n.whole_digits n.fraction_digits ends n.whole_within (subst (λ k. k ≤ 9) n.few_places n.places_within)))
number_stands true digits places text at bytes rest n ends e =
    let whole = n.first ∷ n.others in
    let parts : drop at text ≡ 45 ∷ (whole ++ (point_and n.fraction ++ rest)) =
    e ∙ ap (λ l. l ++ rest) n.spelled ∙ ap (λ l. 45 ∷ l) (append_assoc whole (point_and n.fraction) rest) in
    let next : drop (at + 1) text ≡ whole ++ (point_and n.fraction ++ rest) = behind text at (45 ∷ []) (whole ++ (point_and n.fraction ++ rest)) parts in
    let digit : is_digit (slice_index text (at + 1)) ≡ true =
    ap is_digit (head_at text (at + 1) n.first (n.others ++ (point_and n.fraction ++ rest)) next) ∙ (and_parts (is_digit n.first) (list_all is_digit n.others) n.whole_digits).0 in
    let long : at + 1 + length (whole ++ point_and n.fraction) ≡ at + length (45 ∷ (whole ++ point_and n.fraction)) = omega arith in
    rw (head_at text at 45 (whole ++ (point_and n.fraction ++ rest)) parts, digit)
    (rw n.spelled (number_read text at (at + 1) whole n.fraction rest next n.whole_digits n.fraction_digits ends n.whole_within (subst (λ k. k ≤ 9) n.few_places n.places_within)
    ∙ ap (λ (k : ℕ). Ok (record { kind = kinds.Number; start = at; «end» = k })) long))

-- ---- all kinds

pub stands : (kind : Kind) (text : List ℕ) (at : ℕ) (bytes rest : List ℕ) → Spells kind bytes → Ends kind rest → drop at text ≡ bytes ++ rest
    → token_at text at (slice_index text at) ≡ spot kind at bytes
unfolding token_at
stands Open text at bytes rest is ends e = sign_stands kinds.Open 40 text at bytes rest is e (λ _. refl)
stands Close text at bytes rest is ends e = sign_stands kinds.Close 41 text at bytes rest is e (λ _. refl)
stands OpenSquare text at bytes rest is ends e = sign_stands kinds.OpenSquare 91 text at bytes rest is e (λ _. refl)
stands CloseSquare text at bytes rest is ends e = sign_stands kinds.CloseSquare 93 text at bytes rest is e (λ _. refl)
stands Colon text at bytes rest is ends e =
    sign_stands kinds.Colon 58 text at bytes rest is e (λ next. rw (begins_at is_letter text (at + 1) rest refl next, ends) refl)
stands Name text at bytes rest is ends e = name_stands text at bytes rest is e ends
stands Variable text at bytes rest is ends e =
    marked_stands kinds.Variable 63 text at is.0 bytes rest is.1 is.2 e ends (λ letter. rw letter refl)
stands Keyword text at bytes rest is ends e =
    marked_stands kinds.Keyword 58 text at is.0 bytes rest is.1 is.2 e ends (λ letter. rw letter refl)
stands Number text at bytes rest is ends e = number_stands is.0 is.1 is.2 text at bytes rest is.3 ends e
stands Clock text at bytes rest is ends e = clock_stands text at is.0 bytes rest is.1 is.2 ends e
stands End text at bytes rest is ends e = end_stands text at is.0 is.1 is.2 bytes rest is.3 is.4 is.5 is.6 ends e
stands (kinds.Op op) text at bytes rest is ends e = op_stands op text at bytes rest is ends e

-- ---- what no gap has at its end

letter_is_apart : (b : ℕ) → is_letter b ≡ true → (is_blank b ≡ false) × ((b == 59) ≡ false)
letter_is_apart b l = (no_blank is_letter b refl refl refl refl l, apart is_letter 59 b refl l)

digit_is_apart : (b : ℕ) → is_digit b ≡ true → (is_blank b ≡ false) × ((b == 59) ≡ false)
digit_is_apart b d = (no_blank is_digit b refl refl refl refl d, apart is_digit 59 b refl d)

-- the bytes begin with one that is neither a blank nor a `;`
pub record IsSolid (bytes : List ℕ) : Type 0 where
  pub first : ℕ
  pub others : List ℕ
  pub parts : bytes ≡ first ∷ others
  pub no_blank : is_blank first ≡ false
  pub no_comment : (first == 59) ≡ false

solid : (b : ℕ) (others bytes : List ℕ) → bytes ≡ b ∷ others → (is_blank b ≡ false) × ((b == 59) ≡ false) → IsSolid bytes
solid b others bytes is p = record { first = b; others = others; parts = is; no_blank = p.0; no_comment = p.1 }

op_is_solid : (op : Op) (bytes : List ℕ) → bytes ≡ op_bytes op → IsSolid bytes
op_is_solid Plus bytes is = solid 43 [] bytes is (refl, refl)
op_is_solid Minus bytes is = solid 45 [] bytes is (refl, refl)
op_is_solid Times bytes is = solid 42 [] bytes is (refl, refl)
op_is_solid Divide bytes is = solid 47 [] bytes is (refl, refl)
op_is_solid Less bytes is = solid 60 [] bytes is (refl, refl)
op_is_solid AtMost bytes is = solid 60 (61 ∷ []) bytes is (refl, refl)
op_is_solid Equal bytes is = solid 61 [] bytes is (refl, refl)
op_is_solid AtLeast bytes is = solid 62 (61 ∷ []) bytes is (refl, refl)
op_is_solid Greater bytes is = solid 62 [] bytes is (refl, refl)

number_is_solid : (negative : Bool) (digits places : ℕ) (bytes : List ℕ) → IsNumber negative digits places bytes → IsSolid bytes
number_is_solid false digits places bytes n =
    solid n.first (n.others ++ point_and n.fraction) bytes n.spelled (digit_is_apart n.first (and_parts (is_digit n.first) (list_all is_digit n.others) n.whole_digits).0)
number_is_solid true digits places bytes n = solid 45 ((n.first ∷ n.others) ++ point_and n.fraction) bytes n.spelled (refl, refl)

pub is_solid : (kind : Kind) (bytes : List ℕ) → Spells kind bytes → IsSolid bytes
is_solid Open bytes is = solid 40 [] bytes is (refl, refl)
is_solid Close bytes is = solid 41 [] bytes is (refl, refl)
is_solid OpenSquare bytes is = solid 91 [] bytes is (refl, refl)
is_solid CloseSquare bytes is = solid 93 [] bytes is (refl, refl)
is_solid Colon bytes is = solid 58 [] bytes is (refl, refl)
is_solid Name bytes is = solid is.first is.others bytes is.spelled (letter_is_apart is.first is.letter)
is_solid Variable bytes is = solid 63 is.0 bytes is.2 (refl, refl)
is_solid Keyword bytes is = solid 58 is.0 bytes is.2 (refl, refl)
is_solid Number bytes is = number_is_solid is.0 is.1 is.2 bytes is.3
is_solid Clock bytes is = solid 35 (is.0 ∷ []) bytes is.2 (refl, refl)
is_solid End bytes is = solid 64 (is.0 ∷ is.1 ∷ is.2 ∷ []) bytes is.6 (refl, refl)
is_solid (kinds.Op op) bytes is = op_is_solid op bytes is
