-- What is written of a plan, cut into lines.
use Rattle.std.proofs.Common.{◌≡◌, ℕ, ◌≤◌, Bool, true, false, cond, List, [], ◌∷◌, ◌++◌, refl, sym, ap, ◌∙◌, subst, append_assoc}
use Rattle.std.specs.Prelude.{◌==◌, not, codes, map, decimal, All}
use Rattle.std.specs.List.{list_all, flat_map}
use Rattle.std.proofs.lemmas.Bool.{and_parts, and_from, true≢false}
use Rattle.std.specs.Fmt.{signed_decimal}
use Rattle.std.proofs.lemmas.List.Elements.{All-head, All-tail}
use Rattle.plus_fraction.specs.Fraction.{Fraction}
use Rattle.plus_tokens.specs.Bytes.{is_letter, is_digit, is_name_byte}
use Rattle.plus_tokens.specs.Spelling.{Each}
use Rattle.plus_tokens.proofs.Runs.{apart}
use Rattle.plus_expansion.specs.Numbers.{spaced, label_of}
use Rattle.plus_report.specs.Text.{bottom_text, fraction_text}
use Rattle.plus_report.specs.Plans.{act_line, end_line}
use Rattle.plus_plan.specs.Cut.{with_front, lines_of, goes_on}
use Rattle.laws_found.specs.Text.Written.{TimedCall, IsPlainName, IsPlanTime, IsPlainCall, shown, written_plan}
use Rattle.laws_found.proofs.TextLemmas.Digits.{each_both, digits_of}
use Rattle.laws_found.proofs.TextLemmas.Parts.{parts_of}
use Rattle.laws_found.proofs.TextLemmas.Entries.{call_bytes, last_bytes}

-- ---- no LF

abbrev NoLf : List ℕ → Type 0
NoLf bytes = Each goes_on bytes

each_more : (p q : ℕ → Bool) → ((b : ℕ) → p b ≡ true → q b ≡ true) → (bytes : List ℕ) → Each p bytes → Each q bytes
each_more p q f [] all = refl
each_more p q f (b ∷ bs) all =
    let h = and_parts (p b) (list_all p bs) all in and_from (q b) (list_all q bs) (f b h.0) (each_more p q f bs h.1)

-- a byte that passes a test that LF does not pass is no LF
no_lf : (p : ℕ → Bool) → p 10 ≡ false → (b : ℕ) → p b ≡ true → goes_on b ≡ true
no_lf p none b e = ap not (apart p 10 b none e)

digits_no_lf : (n : ℕ) → n ≤ 9223372036854775807 → NoLf (decimal n)
digits_no_lf n few = each_more is_digit goes_on (no_lf is_digit refl) (decimal n) (digits_of n few).all

name_no_lf : (w : List ℕ) → IsPlainName w → NoLf w
name_no_lf w h =
    subst NoLf (sym h.name.spelled)
    (and_from (goes_on h.name.first) (list_all goes_on h.name.others) (no_lf is_letter refl h.name.first h.name.letter)
    (each_more is_name_byte goes_on (no_lf is_name_byte refl) h.name.others h.name.name_bytes))

spaced_no_lf : (ws : List (List ℕ)) → All IsPlainName ws → NoLf (spaced ws)
spaced_no_lf [] all = refl
spaced_no_lf (w ∷ ws) all =
    each_both goes_on w (spaced ws) (name_no_lf w (All-head IsPlainName w ws all)) (spaced_no_lf ws (All-tail IsPlainName w ws all))

label_no_lf : (name : List ℕ) (args : List (List ℕ)) → IsPlainName name → All IsPlainName args → NoLf (label_of name args)
label_no_lf name args h all =
    each_both goes_on name (spaced args ++ 41 ∷ []) (name_no_lf name h) (each_both goes_on (spaced args) (41 ∷ []) (spaced_no_lf args all) refl)

bottom_no_lf : (d : ℕ) → d ≤ 9223372036854775807 → (b : Bool) → NoLf (cond b [] (codes "/" ++ decimal d))
bottom_no_lf d few true = refl
bottom_no_lf d few false = digits_no_lf d few

time_no_lf : (q : Fraction) → IsPlanTime q → NoLf (fraction_text q)
unfolding fraction_text bottom_text
time_no_lf q h =
    let p = parts_of q h in
    subst (λ z. NoLf (signed_decimal z ++ bottom_text q.bottom)) (sym p.top_is)
    (each_both goes_on (decimal p.top) (bottom_text q.bottom) (digits_no_lf p.top p.top_few) (bottom_no_lf q.bottom p.bottom_few (q.bottom == 1)))

call_no_lf : (c : TimedCall) → IsPlainCall c → NoLf (call_bytes c)
call_no_lf c h =
    each_both goes_on (fraction_text c.0) (58 ∷ 32 ∷ label_of c.1.name c.1.args) (time_no_lf c.0 h.time) (label_no_lf c.1.name c.1.args h.name h.args)

last_no_lf : (last : Fraction) → IsPlanTime last → NoLf (last_bytes last)
last_no_lf last h = each_both goes_on (fraction_text last) (codes ": @end") (time_no_lf last h) refl

-- ---- the cut

cut : (line rest : List ℕ) → NoLf line → lines_of (line ++ 10 ∷ rest) ≡ line ∷ lines_of rest
cut [] rest none = refl
cut (b ∷ bs) rest none =
    let h = and_parts (goes_on b) (list_all goes_on bs) none in
    let other : (b == 10) ≡ false = is_not (b == 10) h.0 in
    ap (λ t. cond t ([] ∷ lines_of (bs ++ 10 ∷ rest)) (with_front b (lines_of (bs ++ 10 ∷ rest)))) other ∙ ap (with_front b) (cut bs rest h.1)
  where
    is_not : (t : Bool) → not t ≡ true → t ≡ false
    is_not true e = absurd (true≢false (sym e))
    is_not false e = refl

-- the text is the first line, its LF and what is written of the others
more_text : (c : TimedCall) (cs : List TimedCall) (last : Fraction) → written_plan (c ∷ cs) last ≡ call_bytes c ++ 10 ∷ written_plan cs last
more_text c cs last =
    append_assoc (act_line (shown c)) (flat_map act_line (map shown cs)) (end_line last)
    ∙ append_assoc (fraction_text c.0) (codes ": " ++ (label_of c.1.name c.1.args ++ 10 ∷ [])) (written_plan cs last)
    ∙ ap (λ l. fraction_text c.0 ++ (58 ∷ 32 ∷ l)) (append_assoc (label_of c.1.name c.1.args) (10 ∷ []) (written_plan cs last))
    ∙ sym (append_assoc (fraction_text c.0) (58 ∷ 32 ∷ label_of c.1.name c.1.args) (10 ∷ written_plan cs last))

last_text : (last : Fraction) → written_plan [] last ≡ last_bytes last ++ 10 ∷ []
last_text last = sym (append_assoc (fraction_text last) (codes ": @end") (10 ∷ []))

pub more_lines : (c : TimedCall) (cs : List TimedCall) (last : Fraction) → IsPlainCall c → lines_of (written_plan (c ∷ cs) last) ≡ call_bytes c ∷ lines_of (written_plan cs last)
more_lines c cs last h = ap lines_of (more_text c cs last) ∙ cut (call_bytes c) (written_plan cs last) (call_no_lf c h)

pub last_lines : (last : Fraction) → IsPlanTime last → lines_of (written_plan [] last) ≡ last_bytes last ∷ []
last_lines last h = ap lines_of (last_text last) ∙ cut (last_bytes last) [] (last_no_lf last h)
