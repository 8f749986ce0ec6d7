-- Numbers read again.
use Rattle.std.proofs.Common.{◌≡◌, ℕ, zero, suc, ◌+◌, ◌-◌, ◌*◌, ◌/◌, ◌%◌, ◌^◌, ◌<◌, ◌≤◌, Bool, true, false, cond, List, [], ◌∷◌, ◌++◌, length, take, drop, Option, Some, None, refl, sym, ap, ◌∙◌, subst, arith, length-append, length-take, length-drop}
use Rattle.std.specs.Prelude.{replicate, nat_le, decimal, ◌==◌, ◌&&◌, not}
use Rattle.std.specs.List.{list_all}
use Rattle.std.proofs.lemmas.Bool.{and_parts, and_from, le-leb, leb-true}
use Rattle.std.proofs.lemmas.List.{take-append-drop, append-nil, length-replicate}
use Rattle.std.proofs.lemmas.Fmt.{decimal_by_steps_wide, length-decimal-le_wide}
use Rattle.std.proofs.Math.Nat.{pow-le-pow_right, mul-le-mul, pow-succ'}
use Rattle.plus_tokens.specs.declared.token.Kind.{Kind}
use Rattle.plus_tokens.specs.declared.token.Kind.TheVariants as kinds
use Rattle.plus_tokens.specs.Bytes.{is_digit, decimal as read_decimal}
use Rattle.plus_tokens.specs.Spelling.{Each, sign_of, point_and, IsNumber, Spells}
use Rattle.plus_tokens.specs.declared.span.Span.{Span}
use Rattle.plus_tree.specs.declared.terms.Literal.{Literal}
use Rattle.plus_tokens.specs.Lowered.{lowered}
use Rattle.plus_tokens.specs.Items.{Piece}
use Rattle.plus_tokens.specs.declared.numeral.Numeral.{Numeral}
use Rattle.plus_tokens.specs.Numeral.{numeral, numeral_of, piece_numeral}
use Rattle.plus_tokens.proofs.Numerals.{spelled_lowered}
use Rattle.plus_parser.specs.Phrases.Literals.{trimmed, numeral_literal, kind_literal}
use Rattle.plus_parser.specs.Phrases.Words.{is_unsigned, kind_time}
use Rattle.plus_parser.specs.Phrases.Spells as spells
use Rattle.plus_parser.specs.SpellsProblem.{IsTime}
use Rattle.plus_printer.specs.Words.{word, padded, pointed, number_text, sign_text, literal_text}
use Rattle.plus_canonical.specs.Same.{bare_literal}
use Rattle.plus_canonical.proofs.Lexes.{Ended, kind_stops, Reads, turn, piece, IsToken, token_reads}
use Rattle.plus_canonical.proofs.Smalls.{even_token, Lexical}
use Rattle.plus_canonical.proofs.Forms.{Again}

-- ---- digits

each_left : (p : ℕ → Bool) (a b : List ℕ) → Each p (a ++ b) → Each p a
each_left p [] b e = refl
each_left p (x ∷ a) b e = let h = and_parts (p x) (list_all p (a ++ b)) e in and_from (p x) (list_all p a) h.0 (each_left p a b h.1)

each_right : (p : ℕ → Bool) (a b : List ℕ) → Each p (a ++ b) → Each p b
each_right p [] b e = e
each_right p (x ∷ a) b e = each_right p a b (and_parts (p x) (list_all p (a ++ b)) e).1

each_both : (p : ℕ → Bool) (a b : List ℕ) → Each p a → Each p b → Each p (a ++ b)
each_both p [] b x y = y
each_both p (z ∷ a) b x y = let h = and_parts (p z) (list_all p a) x in and_from (p z) (list_all p (a ++ b)) h.0 (each_both p a b h.1 y)

read_last : (ds : List ℕ) (n d : ℕ) → read_decimal n (ds ++ d ∷ []) ≡ 10 * read_decimal n ds + (d - 48)
read_last [] n d = refl
read_last (e ∷ ds) n d = read_last ds (10 * n + (e - 48)) d

-- digits of a value
record Digits (n : ℕ) (ds : List ℕ) : Type 0 where
  all : Each is_digit ds
  value : read_decimal 0 ds ≡ n
  some : 0 < length ds

digit_test : (d : ℕ) → d < 10 → is_digit (48 + d) ≡ true
digit_test d lt = and_from _ _ (le-leb 48 (48 + d) (omega arith)) (le-leb (48 + d) 57 (omega arith))

one_digit : (n : ℕ) → n < 10 → Digits n ((48 + n) ∷ [])
one_digit n lt = record { all = and_from _ _ (digit_test n lt) refl; value = omega arith; some = omega arith }

more_digits : (n : ℕ) (ds : List ℕ) → 10 ≤ n → Digits (n / 10) ds → Digits n (ds ++ ((48 + n % 10) ∷ []))
more_digits n ds ge d = record {
  all = each_both is_digit ds ((48 + n % 10) ∷ []) d.all (and_from _ _ (digit_test (n % 10) (omega arith)) refl);
  value = read_last ds 0 (48 + n % 10) ∙ (let v : read_decimal 0 ds ≡ n / 10 = d.value in omega (arith, v));
  some = omega (arith, length-append ds ((48 + n % 10) ∷ []), d.some);
}

digits_of : (n : ℕ) → n < 10 ^ 64 → Digits n (decimal n)
digits_of n lt = decimal_by_steps_wide Digits one_digit more_digits n lt

zeros_digits : (k n : ℕ) (ds : List ℕ) → Digits n ds → Digits n (replicate k 48 ++ ds)
zeros_digits zero n ds d = d
zeros_digits (suc k) n ds d =
    let m : Digits n (replicate k 48 ++ ds) = zeros_digits k n ds d in
    record { all = and_from (is_digit 48) (list_all is_digit (replicate k 48 ++ ds)) refl m.all; value = m.value; some = omega (arith, m.some) }

-- a value is below the power of its digits
room : (s v t r : ℕ) → v ≤ 10 * (s + 1) → r < v * t → r < (s + 1) * (10 * t)
room s v t r le lt =
    let same : t ≤ t = omega arith in
    let m : v * t ≤ (10 * (s + 1)) * t = mul-le-mul le same in
    let e : (10 * (s + 1)) * t ≡ (s + 1) * (10 * t) = grind arith in
    omega (arith, m, e)

below : (ds : List ℕ) (s : ℕ) → Each is_digit ds → read_decimal s ds < (s + 1) * 10 ^ length ds
below [] s all = omega arith
below (d ∷ ds) s all =
    let h = and_parts (is_digit d) (list_all is_digit ds) all in
    let small : d ≤ 57 = leb-true d 57 (and_parts (nat_le 48 d) (nat_le d 57) h.0).1 in
    let ih : read_decimal (10 * s + (d - 48)) ds < (10 * s + (d - 48) + 1) * 10 ^ length ds = below ds (10 * s + (d - 48)) h.1 in
    let top : 10 ^ length (d ∷ ds) ≡ 10 * 10 ^ length ds = pow-succ' 10 (length ds) in
    subst (λ n. read_decimal (10 * s + (d - 48)) ds < (s + 1) * n) (sym top)
    (room s (10 * s + (d - 48) + 1) (10 ^ length ds) (read_decimal (10 * s + (d - 48)) ds) (omega arith) ih)

-- ---- literals

-- a number that a text may spell, without zeros at the end of its places
pub record GoodLiteral (n : Literal) : Type 0 where
  pub bound : n.digits < 10 ^ (19 + n.places)
  pub few : n.places ≤ 9
  pub normal : (t : Span) → trimmed n.negative t n.places n.digits ≡ record n { span = t }

sign_twice : (a b : Bool) → ((a && b) && b) ≡ (a && b)
sign_twice true true = refl
sign_twice true false = refl
sign_twice false b = refl

trimmed_good : (negative : Bool) (s : Span) (p d : ℕ) → p ≤ 9 → d < 10 ^ (19 + p) → GoodLiteral (trimmed negative s p d)
trimmed_good negative s zero d few lt = record {
  bound = lt;
  few = omega arith;
  normal = λ t. ap (λ (b : Bool). record { negative = b; digits = d; places = 0; span = t }) (sign_twice negative (not (d == 0)));
}
trimmed_good negative s (suc p) d few lt = by (d % 10 == 0) refl (trimmed_good negative s p (d / 10) (omega arith) less)
  where
    less : d / 10 < 10 ^ (19 + p)
    less =
        let n : 19 + suc p ≡ suc (19 + p) = omega arith in
        let e : 10 ^ (19 + suc p) ≡ 10 * 10 ^ (19 + p) = ap (λ k. 10 ^ k) n ∙ pow-succ' 10 (19 + p) in
        omega (arith, lt, e)

    by : (b : Bool) → (d % 10 == 0) ≡ b → GoodLiteral (trimmed negative s p (d / 10))
        → GoodLiteral (cond b (trimmed negative s p (d / 10)) (record { negative = negative; digits = d; places = suc p; span = s }))
    by true e more = more
    by false e more = record {
      bound = lt;
      few = few;
      normal = λ t. ap (λ (b : Bool). cond b (trimmed negative t p (d / 10)) (record { negative = negative; digits = d; places = suc p; span = t })) e;
    }

spelled_good : (negative : Bool) (digits places : ℕ) (bytes : List ℕ) (s : Span) → IsNumber negative digits places bytes → GoodLiteral (trimmed negative s places digits)
spelled_good negative digits places bytes s n =
    let all : Each is_digit ((n.first ∷ n.others) ++ n.fraction) = each_both is_digit (n.first ∷ n.others) n.fraction n.whole_digits n.fraction_digits in
    let lt : read_decimal 0 ((n.first ∷ n.others) ++ n.fraction) < 1 * 10 ^ length ((n.first ∷ n.others) ++ n.fraction) = below ((n.first ∷ n.others) ++ n.fraction) 0 all in
    let long : length ((n.first ∷ n.others) ++ n.fraction) ≤ 19 + places = omega (arith, length-append (n.first ∷ n.others) n.fraction, n.whole_within, n.few_places) in
    let top : 10 ^ length ((n.first ∷ n.others) ++ n.fraction) ≤ 10 ^ (19 + places) = pow-le-pow_right {n = 10} (omega arith) long in
    trimmed_good negative s places digits n.places_within (omega (arith, lt, top, n.value))

some_is : (a b : Literal) → ◌≡◌ {A = Option Literal} (Some a) (Some b) → a ≡ b
some_is a b e = cc

number_kind : (k : Kind) (s : Span) (bytes : List ℕ) (n : Literal) → Spells k bytes → kind_literal k (lowered bytes) s ≡ Some n → GoodLiteral n
unfolding kind_literal
number_kind kinds.Number s bytes n spelled e =
    let read : numeral_of (lowered bytes) ≡ Some (numeral spelled.0 spelled.1 spelled.2) = spelled_lowered spelled.0 spelled.1 spelled.2 bytes spelled.3 in
    let same : trimmed spelled.0 s spelled.2 spelled.1 ≡ n = some_is _ n (sym (ap (λ o. numeral_literal o s) read) ∙ e) in
    subst GoodLiteral same (spelled_good spelled.0 spelled.1 spelled.2 bytes s spelled.3)
number_kind _ s bytes n spelled e = absurd cc

pub literal_good : (p : Piece) (n : Literal) → Lexical p → spells.IsNumber n p → GoodLiteral n
literal_good p n l is = number_kind p.kind p.span l.bytes n l.spelled (ap (λ w. kind_literal p.kind w p.span) (sym l.word_is) ∙ is)

-- ---- the canonical text of a number

point_some : (f : List ℕ) → 0 < length f → point_and f ≡ 46 ∷ f
point_some [] lt = absurd (omega arith)
point_some (d ∷ ds) lt = refl

number_made : (negative : Bool) (digits places : ℕ) (whole fraction bytes : List ℕ) → Digits digits (whole ++ fraction) → 0 < length whole → length whole ≤ 19
    → places ≡ length fraction → places ≤ 9 → bytes ≡ sign_of negative ++ (whole ++ point_and fraction) → IsNumber negative digits places bytes
number_made negative digits places [] fraction bytes d some few is le e = absurd (omega arith)
number_made negative digits places (f ∷ os) fraction bytes d some few is le e = record {
  first = f;
  others = os;
  fraction = fraction;
  whole_digits = each_left is_digit (f ∷ os) fraction d.all;
  fraction_digits = each_right is_digit (f ∷ os) fraction d.all;
  spelled = e;
  value = sym d.value;
  few_places = is;
  whole_within = few;
  places_within = le;
}

sign_is : (negative : Bool) → sign_text negative ≡ sign_of negative
unfolding word
sign_is true = refl
sign_is false = refl

-- as many digits as places and one more, and no more than 19 before the point
record Padded (places digits : ℕ) (ds : List ℕ) : Type 0 where
  are : Digits digits ds
  above : places < length ds
  within : length ds ≤ 19 + places

padded_is : (places digits : ℕ) → places ≤ 9 → digits < 10 ^ (19 + places) → Padded places digits (padded (suc places) digits)
unfolding padded
padded_is places digits few lt =
    let top : 10 ^ (19 + places) ≤ 10 ^ 64 = pow-le-pow_right {n = 10} (omega arith) {i = 19 + places} {j = 64} (omega arith) in
    let small : digits < 10 ^ 64 = omega (arith, lt, top) in
    let short : length (decimal digits) ≤ 19 + places = length-decimal-le_wide (19 + places) digits (omega arith) lt small in
    let n : length (replicate (suc places - length (decimal digits)) 48 ++ decimal digits) ≡ (suc places - length (decimal digits)) + length (decimal digits) =
    length-append (replicate (suc places - length (decimal digits)) 48) (decimal digits) ∙ ap (λ k. k + length (decimal digits)) (length-replicate (suc places - length (decimal digits)) 48) in
    record {
      are = zeros_digits (suc places - length (decimal digits)) digits (decimal digits) (digits_of digits small);
      above = omega (arith, n);
      within = omega (arith, n, short);
    }

number_spelled : (negative : Bool) (digits places : ℕ) (ds : List ℕ) → places ≤ 9 → Padded places digits ds → IsNumber negative digits places (sign_text negative ++ pointed places ds)
unfolding pointed word
number_spelled negative digits zero ds few p =
    number_made negative digits 0 ds [] (sign_text negative ++ ds) (subst (Digits digits) (sym (append-nil ds)) p.are) p.above (omega (arith, p.within)) refl few
    (ap (λ l. l ++ ds) (sign_is negative) ∙ ap (λ l. sign_of negative ++ l) (sym (append-nil ds)))
number_spelled negative digits (suc q) ds few p =
    let c = length ds - suc q in
    let whole : length (take (length ds - suc q) ds) ≡ length ds - suc q = omega (arith, length-take (length ds - suc q) ds) in
    let part : length (drop (length ds - suc q) ds) ≡ suc q = omega (arith, length-drop (length ds - suc q) ds, p.above) in
    number_made negative digits (suc q) (take (length ds - suc q) ds) (drop (length ds - suc q) ds)
    (sign_text negative ++ (take (length ds - suc q) ds ++ (46 ∷ drop (length ds - suc q) ds)))
    (subst (Digits digits) (sym (take-append-drop (length ds - suc q) ds)) p.are) (omega (arith, whole, p.above)) (omega (arith, whole, p.within)) (sym part) few
    (ap (λ l. l ++ (take (length ds - suc q) ds ++ (46 ∷ drop (length ds - suc q) ds))) (sign_is negative)
    ∙ ap (λ l. sign_of negative ++ (take (length ds - suc q) ds ++ l)) (sym (point_some (drop (length ds - suc q) ds) (omega (arith, part)))))

-- ---- a number reads again

abbrev pub SpellsNumber : Literal → List Piece → Type 0
SpellsNumber n ts = (p : Piece) × spells.IsNumber n p × (ts ≡ p ∷ [])

literal_spelled : (n : Literal) → GoodLiteral n → IsNumber n.negative n.digits n.places (literal_text n)
unfolding literal_text number_text
literal_spelled n good =
    number_spelled n.negative n.digits n.places (padded (suc n.places) n.digits) good.few (padded_is n.places n.digits good.few good.bound)

abbrev word_of : Literal → List ℕ
word_of n = lowered (literal_text n)

-- its word spells the literal
word_literal : (n : Literal) → GoodLiteral n → (s : Span) → kind_literal kinds.Number (word_of n) s ≡ Some (record n { span = s })
unfolding kind_literal
word_literal n good s =
    ap (λ o. numeral_literal o s) (spelled_lowered n.negative n.digits n.places (literal_text n) (literal_spelled n good))
    ∙ ap (λ (m : Literal). Some m) (good.normal s)

again_made : (room : ℕ) (n : Literal) → GoodLiteral n → (ts : List Piece) → IsToken kinds.Number (word_of n) ts → Again room Literal SpellsNumber bare_literal n ts
again_made room n good ts t = record {
  again = record n { span = t.span };
  spelled = (piece kinds.Number (word_of n) t.span, word_literal n good t.span, t.whole);
  even = even_token room (piece kinds.Number (word_of n) t.span) ts refl t.whole;
  same = refl;
}

literal_token : (n : Literal) → GoodLiteral n → Reads Ended (literal_text n) (IsToken kinds.Number (word_of n))
literal_token n good =
    token_reads {S = Ended} kinds.Number (literal_text n) (n.negative, n.digits, n.places, literal_spelled n good) (λ rest ok. kind_stops kinds.Number rest ok)

pub literal_again : (room : ℕ) (n : Literal) → GoodLiteral n → Reads Ended (literal_text n) (Again room Literal SpellsNumber bare_literal n)
literal_again room n good = turn {after = Ended} (literal_text n) (again_made room n good) (literal_token n good)

-- ---- a time reads again

-- a time that a text may spell: no sign stands before it
pub record GoodTime (t : Literal) : Type 0 where
  pub number : GoodLiteral t
  pub unsigned : t.negative ≡ false

trimmed_unsigned : (s : Span) (p d : ℕ) → (trimmed false s p d).negative ≡ false
trimmed_unsigned s zero d = refl
trimmed_unsigned s (suc p) d = by (d % 10 == 0) (trimmed_unsigned s p (d / 10))
  where
    by : (b : Bool) → (trimmed false s p (d / 10)).negative ≡ false → (cond b (trimmed false s p (d / 10)) (record { negative = false; digits = d; places = suc p; span = s })).negative ≡ false
    by true e = e
    by false e = refl

literal_unsigned : (o : Option Numeral) (s : Span) (t : Literal) → numeral_literal o s ≡ Some t → is_unsigned o ≡ true → t.negative ≡ false
literal_unsigned None s t e time = absurd cc
literal_unsigned (Some n) s t e time = by n.negative refl
  where
    by : (b : Bool) → n.negative ≡ b → t.negative ≡ false
    by true h = absurd (let no_time : false ≡ true = sym (ap not h) ∙ time in cc)
    by false h =
        let same : trimmed false s n.places n.digits ≡ t = ap (λ b. trimmed b s n.places n.digits) (sym h) ∙ some_is _ t e in
        subst (λ (m : Literal). m.negative ≡ false) same (trimmed_unsigned s n.places n.digits)

time_unsigned : (p : Piece) (t : Literal) → IsTime t p → t.negative ≡ false
unfolding kind_literal
time_unsigned p t is = literal_unsigned (piece_numeral p) p.span t is.0 is.1

pub time_good : (p : Piece) (t : Literal) → Lexical p → IsTime t p → GoodTime t
time_good p t l is = record { number = literal_good p t l is.0; unsigned = time_unsigned p t is }

abbrev pub SpellsTime : Literal → List Piece → Type 0
SpellsTime t ts = (p : Piece) × IsTime t p × (ts ≡ p ∷ [])

time_made : (room : ℕ) (t : Literal) → GoodTime t → (ts : List Piece) → IsToken kinds.Number (word_of t) ts → Again room Literal SpellsTime bare_literal t ts
time_made room t good ts token = record {
  again = record t { span = token.span };
  spelled = (piece kinds.Number (word_of t) token.span, (word_literal t good.number token.span, word_time), token.whole);
  even = even_token room (piece kinds.Number (word_of t) token.span) ts refl token.whole;
  same = refl;
}
  where
    word_time : kind_time kinds.Number (word_of t) ≡ true
    word_time =
        ap is_unsigned (spelled_lowered t.negative t.digits t.places (literal_text t) (literal_spelled t good.number)) ∙ ap not good.unsigned

pub time_again : (room : ℕ) (t : Literal) → GoodTime t → Reads Ended (literal_text t) (Again room Literal SpellsTime bare_literal t)
time_again room t good = turn {after = Ended} (literal_text t) (time_made room t good) (literal_token t good.number)
