-- The parts of a plan line read again: its time and its call.
use Rattle.std.proofs.Common.{◌≡◌, ℕ, ◌^◌, ◌<◌, ◌≤◌, Bool, true, false, cond, List, [], ◌∷◌, ◌++◌, Some, refl, sym, ap, ◌∙◌, subst, arith, inl, inr, ℤ, pos, negsuc, ◌*ℤ◌, ◌≤ℤ◌}
use Rattle.std.specs.Prelude.{◌==◌, decimal, codes, map, All}
use Rattle.std.proofs.lemmas.Int.{ints}
use Rattle.std.specs.Fmt.{signed_decimal}
use Rattle.std.proofs.lemmas.List.{append-nil}
use Rattle.std.proofs.lemmas.Bool.{eqb-true}
use Rattle.std.proofs.lemmas.List.Elements.{All-nil, All-cons, All-head, All-tail}
use Rattle.plus_fraction.specs.Fraction.{Fraction, over}
use Rattle.plus_fraction.proofs.FractionBase.{Is-parts, same}
use Rattle.plus_fraction.proofs.FractionLaws.{Is-over}
use Rattle.plus_fraction.proofs.FractionOrder.{le_of}
use Rattle.plus_fraction.proofs.FractionRing.{Is-whole}
use Rattle.plus_tokens.specs.declared.token.Kind.TheVariants as kinds
use Rattle.plus_tokens.specs.declared.token.Op.TheVariants as ops
use Rattle.plus_tokens.specs.Bytes.{ends_number}
use Rattle.plus_tokens.specs.Spelling.{begins}
use Rattle.plus_tokens.specs.Lowered.{lowered}
use Rattle.plus_tokens.specs.Numeral.{numeral, numeral_of}
use Rattle.plus_tokens.proofs.Numerals.{spelled_lowered}
use Rattle.plus_tree.specs.declared.trees.Call.{Call}
use Rattle.plus_expansion.specs.Numbers.{spaced, label_of}
use Rattle.plus_report.specs.Text.{bottom_text, fraction_text}
use Rattle.plus_plan.specs.declared.forms.Time.{Time}
use Rattle.plus_tokens.specs.Items.{Piece}
use Rattle.plus_plan.specs.Grammar.{around, time}
use Rattle.plus_plan.specs.Spells.{SpellsTime, IsName, SpellsCall}
use Rattle.plus_plan.specs.TimeValue.{value_of}
use Rattle.laws_found.specs.Text.Written.{IsPlainName, IsPlanTime}
use Rattle.laws_found.proofs.TextLemmas.Digits.{number_spelled}
use Rattle.plus_canonical.proofs.Lexes.{Ended, at_space, at_close, Any, Reads, Both, both, turn, join, piece, IsToken, token_reads, Nothing, none_reads}
use Rattle.plus_canonical.proofs.Forms.{open_reads, close_reads, name_reads, spaced_before}

-- what may stand right behind a number
abbrev pub EndsNumber : List ℕ → Type 0
EndsNumber rest = begins ends_number rest ≡ true

-- ---- the time

-- a time that is not negative is a number over another
pub record Parts (q : Fraction) : Type 0 where
  pub top : ℕ
  pub top_is : q.top ≡ pos top
  pub top_few : top ≤ 9223372036854775807
  pub bottom_few : q.bottom ≤ 9223372036854775807

pub parts_of : (q : Fraction) → IsPlanTime q → Parts q
parts_of q h = split q.top refl
  where
    cross : (pos 0 *ℤ pos q.bottom) ≤ℤ (q.top *ℤ pos 1)
    cross = le_of (Is-whole (pos 0)) (Is-parts q) h.not_negative

    split : (z : ℤ) → q.top ≡ z → Parts q
    split (pos n) e = record { top = n; top_is = e; top_few = (let f = h.fits.0 in rw e at f); bottom_few = h.fits.1 }
    split (negsuc n) e = absurd (let c = rw e at cross in omega (arith, ints, c))

-- its value is the number over the other
value_is : (q : Fraction) (n d : ℕ) → q.top ≡ pos n → q.bottom ≡ d → over (pos n) d ≡ q
value_is q n d t b =
    ap (λ k. over (pos n) k) (sym b) ∙ ap (λ z. over z q.bottom) (sym t)
    ∙ same (Is-over q.top q.bottom q.positive) (Is-parts q) refl

-- tokens that spell a time with this value
abbrev pub IsTimeOf : Fraction → List Piece → Type 0
IsTimeOf q ts = (t : Time) × SpellsTime t ts × (value_of t ≡ q)

-- the token of a number
abbrev IsDigits : ℕ → List Piece → Type 0
IsDigits n ts = IsToken kinds.Number (lowered (decimal n)) ts

digits_reads : (n : ℕ) → n ≤ 9223372036854775807 → Reads EndsNumber (decimal n) (IsDigits n)
digits_reads n few = token_reads {S = EndsNumber} kinds.Number (decimal n) (false, n, 0, number_spelled n few) (λ rest ok. inr ok)

digits_numeral : (n : ℕ) → n ≤ 9223372036854775807 → numeral_of (lowered (decimal n)) ≡ Some (numeral false n 0)
digits_numeral n few = spelled_lowered false n 0 (decimal n) (number_spelled n few)

slash_reads : Reads Any (47 ∷ []) (IsToken (kinds.Op ops.Divide) (47 ∷ []))
slash_reads = token_reads {S = Any} (kinds.Op ops.Divide) (47 ∷ []) refl (λ rest ok. tt)

as_decimal : (q : Fraction) (n : ℕ) → n ≤ 9223372036854775807 → q.top ≡ pos n → q.bottom ≡ 1 → (ts : List Piece) → IsDigits n ts → IsTimeOf q ts
as_decimal q n few t b ts k =
    (time n (10 ^ 0) k.span, inl (piece kinds.Number (lowered (decimal n)) k.span, n, 0, digits_numeral n few, refl, k.whole), value_is q n 1 t b)

as_quotient : (q : Fraction) (n d : ℕ) → n ≤ 9223372036854775807 → d ≤ 9223372036854775807 → q.top ≡ pos n → q.bottom ≡ d → (w : List ℕ) (ts : List Piece)
    → Both (IsDigits n) (Both (IsToken (kinds.Op ops.Divide) w) (IsDigits d)) ts → IsTimeOf q ts
as_quotient q n d few few' t b w ts (both front _ f (both slash back s g e) e') =
    let above : 0 < d = subst (λ k. 0 < k) b q.positive in (
      time n d (around f.span g.span),
      inr (
        piece kinds.Number (lowered (decimal n)) f.span,
        piece (kinds.Op ops.Divide) w s.span,
        piece kinds.Number (lowered (decimal d)) g.span,
        n,
        d,
        digits_numeral n few,
        refl,
        digits_numeral d few',
        above,
        refl,
        e' ∙ ap (λ l. front ++ l) e ∙ cc (f.whole, s.whole, g.whole),
      ),
      value_is q n d t b,
    )

bottom_reads : (q : Fraction) (n d : ℕ) → q.top ≡ pos n → n ≤ 9223372036854775807 → q.bottom ≡ d → d ≤ 9223372036854775807 → (b : Bool) → (d == 1) ≡ b
    → Reads EndsNumber (decimal n ++ cond b [] (codes "/" ++ decimal d)) (IsTimeOf q)
bottom_reads q n d t few e few' true one =
    subst (λ bytes. Reads EndsNumber bytes (IsTimeOf q)) (sym (append-nil (decimal n)))
    (turn {after = EndsNumber} (decimal n) (as_decimal q n few t (e ∙ eqb-true d 1 one)) (digits_reads n few))
bottom_reads q n d t few e few' false more =
    turn {after = EndsNumber} (decimal n ++ (47 ∷ decimal d)) (as_quotient q n d few few' t e (47 ∷ []))
    (join {S = EndsNumber} {T = EndsNumber} (decimal n) (47 ∷ decimal d) (digits_reads n few)
    (join {S = Any} {T = EndsNumber} (47 ∷ []) (decimal d) slash_reads (digits_reads d few') (λ rest ok. tt)) (λ rest ok. refl))

pub time_reads : (q : Fraction) → IsPlanTime q → Reads EndsNumber (fraction_text q) (IsTimeOf q)
unfolding fraction_text bottom_text
time_reads q h =
    let p = parts_of q h in
    subst (λ z. Reads EndsNumber (signed_decimal z ++ bottom_text q.bottom) (IsTimeOf q)) (sym p.top_is)
    (bottom_reads q p.top q.bottom p.top_is p.top_few refl p.bottom_few (q.bottom == 1) refl)

-- ---- the call

abbrev pub IsNamed : List ℕ → List Piece → Type 0
IsNamed w ts = IsToken kinds.Name w ts

plain_reads : (w : List ℕ) → IsPlainName w → Reads Ended w (IsNamed w)
plain_reads w h = name_reads w (record { name = h.name; same = h.small })

-- tokens that are these names
record AreNamed (ws : List (List ℕ)) (ts : List Piece) : Type 0 where
  names : All IsName ts
  words : map (λ (p : Piece). p.word) ts ≡ ws

no_names : (ts : List Piece) → Nothing ts → AreNamed [] ts
no_names ts e = subst (AreNamed []) (sym e) (record { names = All-nil IsName; words = refl })

more_names : (w : List ℕ) (ws : List (List ℕ)) (ts : List Piece) → Both (IsNamed w) (AreNamed ws) ts → AreNamed (w ∷ ws) ts
more_names w ws ts (both a b n m e) =
    subst (AreNamed (w ∷ ws)) (sym (e ∙ ap (λ l. l ++ b) n.whole))
    (record { names = All-cons IsName (piece kinds.Name w n.span) b refl m.names; words = ap (λ l. w ∷ l) m.words })

-- a name, and as many as follow
spaced_ends : (ws : List (List ℕ)) (rest : List ℕ) → Ended rest → Ended (spaced ws ++ rest)
spaced_ends [] rest ok = ok
spaced_ends (w ∷ ws) rest ok = at_space

spaced_reads : (ws : List (List ℕ)) → All IsPlainName ws → Reads Ended (spaced ws) (AreNamed ws)
spaced_reads [] all = turn {after = Ended} [] no_names (none_reads Ended)
spaced_reads (w ∷ ws) all =
    turn {after = Ended} (32 ∷ (w ++ spaced ws)) (more_names w ws)
    (join {S = Ended} {T = Ended} {P = IsNamed w} {Q = AreNamed ws} (32 ∷ w) (spaced ws)
    (spaced_before {S = Ended} {P = IsNamed w} w (plain_reads w (All-head IsPlainName w ws all)))
    (spaced_reads ws (All-tail IsPlainName w ws all)) (spaced_ends ws))

abbrev IsOpen : List Piece → Type 0
IsOpen ts = IsToken kinds.Open (40 ∷ []) ts

abbrev IsClose : List Piece → Type 0
IsClose ts = IsToken kinds.Close (41 ∷ []) ts

call_made : (c : Call) (ts : List Piece) → Both IsOpen (Both (IsNamed c.name) (Both (AreNamed c.args) IsClose)) ts → SpellsCall c ts
call_made c ts (both a _ o (both b _ n (both args d m s e) e') e'') = record {
  first = piece kinds.Open (40 ∷ []) o.span;
  name = piece kinds.Name c.name n.span;
  args = args;
  last = piece kinds.Close (41 ∷ []) s.span;
  opens = refl;
  named = refl;
  names = m.names;
  closes = refl;
  is = λ i. record { name = c.name; args = sym m.words i };
  whole = e'' ∙ ap (λ l. a ++ l) (e' ∙ ap (λ l. b ++ l) (e ∙ ap (λ l. args ++ l) s.whole)) ∙ cc (o.whole, n.whole);
}

-- a call behind a space
pub call_reads : (c : Call) → IsPlainName c.name → All IsPlainName c.args → Reads Any (32 ∷ label_of c.name c.args) (SpellsCall c)
call_reads c name args =
    turn {after = Any} (32 ∷ label_of c.name c.args) (call_made c)
    (join {S = Any} {T = Any} (32 ∷ 40 ∷ []) (c.name ++ (spaced c.args ++ 41 ∷ [])) (spaced_before {S = Any} {P = IsOpen} (40 ∷ []) open_reads)
    (join {S = Ended} {T = Any} c.name (spaced c.args ++ 41 ∷ []) (plain_reads c.name name)
    (join {S = Ended} {T = Any} (spaced c.args) (41 ∷ []) (spaced_reads c.args args) close_reads (λ rest ok. at_close))
    (λ rest ok. close_ends c.args rest)) (λ rest ok. tt))
  where
    close_ends : (ws : List (List ℕ)) (rest : List ℕ) → Ended ((spaced ws ++ 41 ∷ []) ++ rest)
    close_ends [] rest = at_close
    close_ends (w ∷ ws) rest = at_space
