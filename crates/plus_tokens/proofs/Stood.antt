-- What is read at an offset is spelled there.
use Rattle.std.proofs.Common.{◌≡◌, ◌⊎◌, ℕ, ◌+◌, ◌≤◌, Bool, true, false, cond, not, List, [], ◌∷◌, ◌++◌, length, drop, Result, Ok, Err, refl, sym, ◌∙◌, ap, subst, inl, inr, append_assoc, length-append, arith, rules, eqb}
use Rattle.std.specs.Prelude.{IfOk, ◌==◌, ◌&&◌, ◌||◌, nat_lt, slice_index}
use Rattle.std.specs.List.{prefix_len, list_all}
use Rattle.std.proofs.lemmas.Bool.{cond_both, lt-ltb, and_parts, and_from, or_parts, eqb-true, ltb-false, false≢true}
use Rattle.plus_tokens.specs.declared.token.Op.TheVariants as ops
use Rattle.plus_tokens.specs.declared.token.Kind.{Kind}
use Rattle.plus_tokens.specs.declared.token.Kind.TheVariants as kinds
use Rattle.plus_tokens.specs.declared.token.Token.{Token}
use Rattle.plus_tokens.specs.declared.token.LexFault.{LexFault}
use Rattle.plus_tokens.specs.declared.token.LexFault.TheVariants.{TooLong}
use Rattle.plus_tokens.specs.Bytes.{is_letter, is_digit, is_name_byte, ends_number, decimal}
use Rattle.plus_tokens.specs.First.{word_at, number_at, sized, token_at, has_clock, has_end, is_letter_of}
use Rattle.plus_tokens.specs.Spelling.{Each, begins, IsName, sign_of, point_and, Spells, Ends}
use Rattle.plus_tokens.proofs.Runs.{prefix_run, behind, begins_at, inside_at}
use Rattle.plus_tokens.proofs.Split.{Run, run_of}
use Rattle.std.proofs.lemmas.List.{append-nil}
use Rattle.plus_tokens.proofs.Numbers.{whole_parts, point_parts}
use Rattle.plus_tokens.proofs.Standing.{letter_is_name_byte}

-- a token is spelled at an offset
pub record IsStood (text : List ℕ) (at : ℕ) (t : Token) : Type 0 where
  pub bytes : List ℕ
  pub rest : List ℕ
  pub parts : drop at text ≡ bytes ++ rest
  pub spelled : Spells t.kind bytes
  pub ends : Ends t.kind rest
  pub starts_at : t.start ≡ at
  pub ends_at : t.«end» ≡ at + length bytes

pub record Stood (text : List ℕ) (at : ℕ) (r : Result Token LexFault) : Type 0 where
  pub fact : IfOk r (IsStood text at)

-- a choice is spelled where both sides are
pick : {text : List ℕ} {at : ℕ} {b : Bool} {x y : Result Token LexFault} → (b ≡ true → Stood text at x) → (b ≡ false → Stood text at y) → Stood text at (cond b x y)
pick {text} {at} {b} {x} {y} f g = cond_both b x y (Stood text at) f g

fault : {text : List ℕ} {at : ℕ} {f : LexFault} → Stood text at (Err f)
fault = record { fact = tt }

-- these bytes stand at the offset and spell the kind
stood : (kind : Kind) (text : List ℕ) (at : ℕ) (bytes rest : List ℕ) (last : ℕ) → drop at text ≡ bytes ++ rest → Spells kind bytes → Ends kind rest → last ≡ at + length bytes
    → Stood text at (Ok (record { kind = kind; start = at; «end» = last }))
stood kind text at bytes rest last parts spelled ends long =
    record { fact = record { bytes = bytes; rest = rest; parts = parts; spelled = spelled; ends = ends; starts_at = refl; ends_at = long } }

-- the byte at an offset that passes a test, which 0 does not
record Grab (p : ℕ → Bool) (text : List ℕ) (at : ℕ) : Type 0 where
  first : ℕ
  rest : List ℕ
  parts : drop at text ≡ first ∷ rest
  passes : p first ≡ true

grab : (p : ℕ → Bool) → p 0 ≡ false → (text : List ℕ) (at : ℕ) → p (slice_index text at) ≡ true → Grab p text at
grab p none text at h = from (drop at text) refl where
  from : (l : List ℕ) → drop at text ≡ l → Grab p text at
  from [] e = absurd (false≢true (sym (begins_at p text at [] none e) ∙ h))
  from (c ∷ rest) e = record { first = c; rest = rest; parts = e; passes = sym (begins_at p text at (c ∷ rest) none e) ∙ h }

is_false : (b : Bool) → not b ≡ true → b ≡ false
is_false true e = sym e
is_false false e = refl

-- ---- words

-- a word is a fault, or its name has at most 64 bytes
word_read : (kind : Kind) (text : List ℕ) (at name b : ℕ) (more : List ℕ) → drop name text ≡ b ∷ more → is_letter b ≡ true
    → ((bytes rest : List ℕ) → IsName bytes → drop name text ≡ bytes ++ rest → begins is_name_byte rest ≡ false → Stood text at (Ok (record { kind = kind; start = at; «end» = name + length bytes })))
    → Stood text at (word_at kind text at name)
unfolding word_at
word_read kind text at name b more e letter spelled =
    let r : Run is_name_byte more = run_of is_name_byte more in
    let parts : drop name text ≡ (b ∷ r.run) ++ r.rest = e ∙ ap (λ l. b ∷ l) r.parts in
    let all : Each is_name_byte (b ∷ r.run) = and_from (is_name_byte b) (list_all is_name_byte r.run) (letter_is_name_byte b letter) r.all in
    let long : prefix_len is_name_byte (drop name text) ≡ length (b ∷ r.run) = ap (prefix_len is_name_byte) parts ∙ prefix_run is_name_byte (b ∷ r.run) r.rest all r.stop in
    rw long (cond_both (nat_lt 64 (length (b ∷ r.run))) (Err (TooLong name)) (Ok (record { kind = kind; start = at; «end» = name + length (b ∷ r.run) })) (Stood text at)
    (λ _. fault)
    (λ few. spelled (b ∷ r.run) r.rest
    (record { first = b; others = r.run; letter = letter; name_bytes = r.all; spelled = refl; within = ltb-false 64 (length (b ∷ r.run)) few }) parts r.stop))

module _ (text : List ℕ) (at b : ℕ) (more : List ℕ) (e : drop at text ≡ b ∷ more) where
  -- the byte that a test found
  is_byte : (c : ℕ) → eqb b c ≡ true → drop at text ≡ c ∷ more
  is_byte c h = e ∙ ap (λ d. d ∷ more) (eqb-true b c h)

  name_read : is_letter b ≡ true → Stood text at (word_at kinds.Name text at at)
  name_read letter = word_read kinds.Name text at at b more e letter
      (λ bytes rest n parts stop. stood kinds.Name text at bytes rest (at + length bytes) parts n stop refl)

  marked : (kind : Kind) (c : ℕ) → eqb b c ≡ true → is_letter (slice_index text (at + 1)) ≡ true
      → ((name rest : List ℕ) → IsName name → begins is_name_byte rest ≡ false → Spells kind (c ∷ name) × Ends kind rest) → Stood text at (word_at kind text at (at + 1))
  marked kind c h letter spells =
      let next : drop (at + 1) text ≡ more = behind text at (b ∷ []) more e in
      let some : begins is_letter more ≡ true = sym (begins_at is_letter text (at + 1) more refl next) ∙ letter in
      named more next some
    where
      named : (l : List ℕ) → drop (at + 1) text ≡ l → begins is_letter l ≡ true → Stood text at (word_at kind text at (at + 1))
      named [] next some = absurd (false≢true some)
      named (d ∷ ds) next some = word_read kind text at (at + 1) d ds next some
          (λ name rest n parts stop.
          let s = spells name rest n stop in
          stood kind text at (c ∷ name) rest (at + 1 + length name)
          (is_byte c h ∙ ap (λ l. c ∷ l) (sym (behind text at (b ∷ []) more e) ∙ parts)) s.0 s.1 (omega arith))

  -- ---- signs

  next : drop (at + 1) text ≡ more
  next = behind text at (b ∷ []) more e

  sign_read : (kind : Kind) (c : ℕ) → eqb b c ≡ true → Spells kind (c ∷ []) → Ends kind more → Stood text at (sized kind at 1)
  sign_read kind c h spells ends = stood kind text at (c ∷ []) more (at + 1) (is_byte c h) spells ends refl

  -- one that the next byte does not make another
  alone : (p : ℕ → Bool) → p 0 ≡ false → p (slice_index text (at + 1)) ≡ false → begins p more ≡ false
  alone p none h = sym (begins_at p text (at + 1) more none next) ∙ h

  -- one that the next byte makes longer
  pair_read : (kind : Kind) (c : ℕ) (p : ℕ → Bool) → p 0 ≡ false → eqb b c ≡ true → p (slice_index text (at + 1)) ≡ true
      → ((d : ℕ) (rest : List ℕ) → p d ≡ true → drop (at + 2) text ≡ rest → Spells kind (c ∷ d ∷ []) × Ends kind rest) → Stood text at (sized kind at 2)
  pair_read kind c p none h passes spells =
      let g : Grab p text (at + 1) = grab p none text (at + 1) passes in
      let parts : drop at text ≡ c ∷ g.first ∷ g.rest = is_byte c h ∙ ap (λ l. c ∷ l) (sym next ∙ g.parts) in
      let s = spells g.first g.rest g.passes (behind text at (c ∷ g.first ∷ []) g.rest parts) in
      stood kind text at (c ∷ g.first ∷ []) g.rest (at + 2) parts s.0 s.1 refl

  clock_read : eqb b 35 ≡ true → has_clock text at ≡ true → Stood text at (sized kinds.Clock at 2)
  clock_read h has =
      let p = and_parts (is_letter_of 116 (slice_index text (at + 1))) (not (is_name_byte (slice_index text (at + 2)))) has in
      pair_read kinds.Clock 35 (is_letter_of 116) refl h p.0
      (λ d rest letter left. ((d, letter, refl), sym (begins_at is_name_byte text (at + 2) rest refl left) ∙ is_false (is_name_byte (slice_index text (at + 2))) p.1))

  end_read : eqb b 64 ≡ true → has_end text at ≡ true → Stood text at (sized kinds.End at 4)
  end_read h has =
      let p = and_parts (is_letter_of 101 (slice_index text (at + 1)) && is_letter_of 110 (slice_index text (at + 2))) (is_letter_of 100 (slice_index text (at + 3)) && not (is_name_byte (slice_index text (at + 4)))) has in
      let q = and_parts (is_letter_of 101 (slice_index text (at + 1))) (is_letter_of 110 (slice_index text (at + 2))) p.0 in
      let r = and_parts (is_letter_of 100 (slice_index text (at + 3))) (not (is_name_byte (slice_index text (at + 4)))) p.1 in
      let g1 : Grab (is_letter_of 101) text (at + 1) = grab (is_letter_of 101) refl text (at + 1) q.0 in
      let parts1 : drop at text ≡ 64 ∷ g1.first ∷ g1.rest = is_byte 64 h ∙ ap (λ l. 64 ∷ l) (sym next ∙ g1.parts) in
      let g2 : Grab (is_letter_of 110) text (at + 2) = grab (is_letter_of 110) refl text (at + 2) q.1 in
      let parts2 : drop at text ≡ 64 ∷ g1.first ∷ g2.first ∷ g2.rest =
      parts1 ∙ ap (λ l. 64 ∷ g1.first ∷ l) (sym (behind text at (64 ∷ g1.first ∷ []) g1.rest parts1) ∙ g2.parts) in
      let g3 : Grab (is_letter_of 100) text (at + 3) = grab (is_letter_of 100) refl text (at + 3) r.0 in
      let parts3 : drop at text ≡ 64 ∷ g1.first ∷ g2.first ∷ g3.first ∷ g3.rest =
      parts2 ∙ ap (λ l. 64 ∷ g1.first ∷ g2.first ∷ l) (sym (behind text at (64 ∷ g1.first ∷ g2.first ∷ []) g2.rest parts2) ∙ g3.parts) in
      stood kinds.End text at (64 ∷ g1.first ∷ g2.first ∷ g3.first ∷ []) g3.rest (at + 4) parts3
      (g1.first, g2.first, g3.first, g1.passes, g2.passes, g3.passes, refl)
      (sym (begins_at is_name_byte text (at + 4) g3.rest refl (behind text at (64 ∷ g1.first ∷ g2.first ∷ g3.first ∷ []) g3.rest parts3))
      ∙ is_false (is_name_byte (slice_index text (at + 4))) r.1)
      refl

-- ---- numbers

-- what is behind a number that is not badly ended may end it
ends_from : (text : List ℕ) (n : ℕ) (rest : List ℕ) → drop n text ≡ rest → (nat_lt n (length text) && not (ends_number (slice_index text n))) ≡ false
    → (rest ≡ []) ⊎ (begins ends_number rest ≡ true)
ends_from text n [] e h = inl refl
ends_from text n (b ∷ bs) e h =
    let inside : nat_lt n (length text) ≡ true = lt-ltb n (length text) (inside_at text n b bs e) in
    let h' : not (ends_number (slice_index text n)) ≡ false = subst (λ t. (t && not (ends_number (slice_index text n))) ≡ false) inside h in
    inr (sym (begins_at ends_number text n (b ∷ bs) refl e) ∙ is_true (ends_number (slice_index text n)) h')
  where
    is_true : (t : Bool) → not t ≡ false → t ≡ true
    is_true true e = refl
    is_true false e = sym e

module _ (negative : Bool) (text : List ℕ) (at first b : ℕ) (run : List ℕ) (all : Each is_digit (b ∷ run))
    (sign : drop at text ≡ sign_of negative ++ drop first text) (signed : first ≡ at + length (sign_of negative)) where
  -- a number whose parts are known is the one that they spell
  number_stood : (fraction rest : List ℕ) (last : ℕ) → drop first text ≡ (b ∷ run) ++ (point_and fraction ++ rest) → Each is_digit fraction
      → length (b ∷ run) ≤ 19 → length fraction ≤ 9 → (rest ≡ []) ⊎ (begins ends_number rest ≡ true) → last ≡ first + length ((b ∷ run) ++ point_and fraction)
      → Stood text at (Ok (record { kind = kinds.Number; start = at; «end» = last }))
  number_stood fraction rest last parts more few few_places ends long =
      stood kinds.Number text at (sign_of negative ++ ((b ∷ run) ++ point_and fraction)) rest last
      (sign ∙ ap (λ l. sign_of negative ++ l) (parts ∙ sym (append_assoc (b ∷ run) (point_and fraction) rest)) ∙ sym (append_assoc (sign_of negative) ((b ∷ run) ++ point_and fraction) rest)) (
        negative,
        decimal 0 ((b ∷ run) ++ fraction),
        length fraction,
        record {
          first = b;
          others = run;
          fraction = fraction;
          whole_digits = all;
          fraction_digits = more;
          spelled = refl;
          value = refl;
          few_places = refl;
          whole_within = few;
          places_within = few_places;
        },
      )
      ends (omega (arith, long, signed, length-append (sign_of negative) ((b ∷ run) ++ point_and fraction)))

  whole_read : (rest : List ℕ) → drop first text ≡ (b ∷ run) ++ rest → begins is_digit rest ≡ false → begins (λ c. c == 46) rest ≡ false → Stood text at (number_at text at first)
  whole_read rest parts stop no_point =
      rw (whole_parts text at first (b ∷ run) rest parts all stop no_point)
      (cond_both (nat_lt 19 (length (b ∷ run)) || nat_lt 9 0) _ _ (Stood text at) (λ _. fault)
      (λ few. cond_both (nat_lt (first + length (b ∷ run)) (length text) && not (ends_number (slice_index text (first + length (b ∷ run))))) _ _ (Stood text at) (λ _. fault)
      (λ ended. number_stood [] rest (first + length (b ∷ run)) parts refl
      (ltb-false 19 (length (b ∷ run)) (or_parts (nat_lt 19 (length (b ∷ run))) (nat_lt 9 0) few).0) (omega arith)
      (ends_from text (first + length (b ∷ run)) rest (behind text first (b ∷ run) rest parts) ended) (ap (λ l. first + length l) (sym (append-nil (b ∷ run)))))))

  point_read : (fraction rest : List ℕ) → drop first text ≡ (b ∷ run) ++ (46 ∷ (fraction ++ rest)) → Each is_digit fraction → begins is_digit rest ≡ false → Stood text at (number_at text at first)
  point_read [] rest parts more stop =
      rw (point_parts text at first (b ∷ run) [] rest parts all more stop)
      (cond_both (nat_lt 19 (length (b ∷ run)) || nat_lt 9 0) _ _ (Stood text at) (λ _. fault) (λ _. fault))
  point_read (d ∷ ds) rest parts more stop =
      let left : drop (first + length (b ∷ run) + 1) text ≡ (d ∷ ds) ++ rest =
      behind text (first + length (b ∷ run)) (46 ∷ []) ((d ∷ ds) ++ rest) (behind text first (b ∷ run) (46 ∷ ((d ∷ ds) ++ rest)) parts) in
      rw (point_parts text at first (b ∷ run) (d ∷ ds) rest parts all more stop)
      (cond_both (nat_lt 19 (length (b ∷ run)) || nat_lt 9 (length (d ∷ ds))) _ _ (Stood text at) (λ _. fault)
      (λ few. cond_both (length (d ∷ ds) == 0) _ _ (Stood text at) (λ _. fault)
      (λ _. cond_both (nat_lt (first + length (b ∷ run) + 1 + length (d ∷ ds)) (length text) && not (ends_number (slice_index text (first + length (b ∷ run) + 1 + length (d ∷ ds))))) _ _ (Stood text at) (λ _. fault)
      (λ ended. number_stood (d ∷ ds) rest (first + length (b ∷ run) + 1 + length (d ∷ ds)) parts more
      (ltb-false 19 (length (b ∷ run)) (or_parts (nat_lt 19 (length (b ∷ run))) (nat_lt 9 (length (d ∷ ds))) few).0)
      (ltb-false 9 (length (d ∷ ds)) (or_parts (nat_lt 19 (length (b ∷ run))) (nat_lt 9 (length (d ∷ ds))) few).1)
      (ends_from text (first + length (b ∷ run) + 1 + length (d ∷ ds)) rest (behind text (first + length (b ∷ run) + 1) (d ∷ ds) rest left) ended)
      (omega (arith, length-append (b ∷ run) (46 ∷ d ∷ ds)))))))

  behind_whole : (rest : List ℕ) → drop first text ≡ (b ∷ run) ++ rest → begins is_digit rest ≡ false → Stood text at (number_at text at first)
  behind_whole [] parts stop = whole_read [] parts stop refl
  behind_whole (c ∷ cs) parts stop = point (c == 46) refl where
    point : (t : Bool) → (c == 46) ≡ t → Stood text at (number_at text at first)
    point false other = whole_read (c ∷ cs) parts stop other
    point true is_point =
        let r : Run is_digit cs = run_of is_digit cs in
        point_read r.run r.rest
        (parts ∙ ap (λ l. (b ∷ run) ++ l) (ap (λ x. x ∷ cs) (eqb-true c 46 is_point) ∙ ap (λ l. 46 ∷ l) r.parts)) r.all r.stop

number_read : (negative : Bool) (text : List ℕ) (at first b : ℕ) (more : List ℕ) → drop first text ≡ b ∷ more → is_digit b ≡ true
    → drop at text ≡ sign_of negative ++ drop first text → first ≡ at + length (sign_of negative) → Stood text at (number_at text at first)
number_read negative text at first b more e digit sign signed =
    let r : Run is_digit more = run_of is_digit more in
    behind_whole negative text at first b r.run (and_from (is_digit b) (list_all is_digit r.run) digit r.all) sign signed r.rest
    (e ∙ ap (λ l. b ∷ l) r.parts) r.stop

-- ---- all kinds

pub token_read : (text : List ℕ) (at b : ℕ) (more : List ℕ) → drop at text ≡ b ∷ more → Stood text at (token_at text at b)
unfolding token_at
token_read text at b more e =
    let named : is_letter b ≡ true → Stood text at (word_at kinds.Name text at at) = name_read text at b more e in
    let numbered : is_digit b ≡ true → Stood text at (number_at text at at) = λ d. number_read false text at at b more e d refl (omega arith) in
    let opened : eqb b 40 ≡ true → Stood text at (sized kinds.Open at 1) = λ h. sign_read text at b more e kinds.Open 40 h refl tt in
    let shut : eqb b 41 ≡ true → Stood text at (sized kinds.Close at 1) = λ h. sign_read text at b more e kinds.Close 41 h refl tt in
    let keyword : eqb b 58 ≡ true → is_letter (slice_index text (at + 1)) ≡ true → Stood text at (word_at kinds.Keyword text at (at + 1)) =
    λ h l. marked text at b more e kinds.Keyword 58 h l (λ name rest n stop. ((name, n, refl), stop)) in
    let colon : eqb b 58 ≡ true → is_letter (slice_index text (at + 1)) ≡ false → Stood text at (sized kinds.Colon at 1) =
    λ h l. sign_read text at b more e kinds.Colon 58 h refl (alone text at b more e is_letter refl l) in
    let variable : eqb b 63 ≡ true → is_letter (slice_index text (at + 1)) ≡ true → Stood text at (word_at kinds.Variable text at (at + 1)) =
    λ h l. marked text at b more e kinds.Variable 63 h l (λ name rest n stop. ((name, n, refl), stop)) in
    let negative : eqb b 45 ≡ true → is_digit (slice_index text (at + 1)) ≡ true → Stood text at (number_at text at (at + 1)) =
    λ h d. (let g : Grab is_digit text (at + 1) = grab is_digit refl text (at + 1) d in
    number_read true text at (at + 1) g.first g.rest g.parts g.passes (is_byte text at b more e 45 h ∙ ap (λ l. 45 ∷ l) (sym (next text at b more e))) refl) in
    let minus : eqb b 45 ≡ true → is_digit (slice_index text (at + 1)) ≡ false → Stood text at (sized (kinds.Op ops.Minus) at 1) =
    λ h d. sign_read text at b more e (kinds.Op ops.Minus) 45 h refl (alone text at b more e is_digit refl d) in
    let at_most : eqb b 60 ≡ true → eqb (slice_index text (at + 1)) 61 ≡ true → Stood text at (sized (kinds.Op ops.AtMost) at 2) =
    λ h d. pair_read text at b more e (kinds.Op ops.AtMost) 60 (λ c. c == 61) refl h d (λ c rest is _. (ap (λ x. 60 ∷ x ∷ []) (eqb-true c 61 is), tt)) in
    let less : eqb b 60 ≡ true → eqb (slice_index text (at + 1)) 61 ≡ false → Stood text at (sized (kinds.Op ops.Less) at 1) =
    λ h d. sign_read text at b more e (kinds.Op ops.Less) 60 h refl (alone text at b more e (λ c. c == 61) refl d) in
    let at_least : eqb b 62 ≡ true → eqb (slice_index text (at + 1)) 61 ≡ true → Stood text at (sized (kinds.Op ops.AtLeast) at 2) =
    λ h d. pair_read text at b more e (kinds.Op ops.AtLeast) 62 (λ c. c == 61) refl h d (λ c rest is _. (ap (λ x. 62 ∷ x ∷ []) (eqb-true c 61 is), tt)) in
    let greater : eqb b 62 ≡ true → eqb (slice_index text (at + 1)) 61 ≡ false → Stood text at (sized (kinds.Op ops.Greater) at 1) =
    λ h d. sign_read text at b more e (kinds.Op ops.Greater) 62 h refl (alone text at b more e (λ c. c == 61) refl d) in
    let equal : eqb b 61 ≡ true → Stood text at (sized (kinds.Op ops.Equal) at 1) = λ h. sign_read text at b more e (kinds.Op ops.Equal) 61 h refl tt in
    let plus : eqb b 43 ≡ true → Stood text at (sized (kinds.Op ops.Plus) at 1) = λ h. sign_read text at b more e (kinds.Op ops.Plus) 43 h refl tt in
    let times : eqb b 42 ≡ true → Stood text at (sized (kinds.Op ops.Times) at 1) = λ h. sign_read text at b more e (kinds.Op ops.Times) 42 h refl tt in
    let divide : eqb b 47 ≡ true → Stood text at (sized (kinds.Op ops.Divide) at 1) = λ h. sign_read text at b more e (kinds.Op ops.Divide) 47 h refl tt in
    let open_square : eqb b 91 ≡ true → Stood text at (sized kinds.OpenSquare at 1) = λ h. sign_read text at b more e kinds.OpenSquare 91 h refl tt in
    let close_square : eqb b 93 ≡ true → Stood text at (sized kinds.CloseSquare at 1) = λ h. sign_read text at b more e kinds.CloseSquare 93 h refl tt in
    let clock : eqb b 35 ≡ true → has_clock text at ≡ true → Stood text at (sized kinds.Clock at 2) = clock_read text at b more e in
    let ended : eqb b 64 ≡ true → has_end text at ≡ true → Stood text at (sized kinds.End at 4) = end_read text at b more e in
    search (rules, pick, fault, named, numbered, opened, shut, keyword, colon, variable, negative, minus, at_most, less, at_least, greater, equal, plus, times, divide, open_square, close_square, clock, ended) depth 60 fits 4000
