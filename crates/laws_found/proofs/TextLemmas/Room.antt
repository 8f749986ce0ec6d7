-- How long the lines of a plan are.
use Rattle.std.proofs.Common.{ℕ, ◌*◌, ◌≤◌, Bool, true, false, cond, List, [], ◌∷◌, ◌++◌, length, sym, subst, arith, length-append}
use Rattle.std.specs.Prelude.{◌==◌, codes, decimal, All}
use Rattle.std.specs.Fmt.{signed_decimal}
use Rattle.std.proofs.lemmas.List.Elements.{All-nil, All-cons, All-head, All-tail}
use Rattle.plus_fraction.specs.Fraction.{Fraction}
use Rattle.plus_expansion.specs.Numbers.{spaced, label_of}
use Rattle.plus_report.specs.Text.{bottom_text, fraction_text}
use Rattle.plus_plan.specs.Cut.{lines_of}
use Rattle.laws_found.specs.Text.Written.{TimedCall, IsPlainName, IsPlanTime, IsPlainCall, HasFewArguments, written_plan, HasShortLines}
use Rattle.laws_found.proofs.TextLemmas.Digits.{digits_few}
use Rattle.laws_found.proofs.TextLemmas.Parts.{parts_of}
use Rattle.laws_found.proofs.TextLemmas.Entries.{call_bytes, last_bytes}
use Rattle.laws_found.proofs.TextLemmas.Cuts.{more_lines, last_lines}
use Rattle.laws_found.proofs.TextLemmas.Whole.{IsShort}

bottom_few : (d : ℕ) → d ≤ 9223372036854775807 → (b : Bool) → length (cond b [] (codes "/" ++ decimal d)) ≤ 20
bottom_few d few true = omega arith
bottom_few d few false = omega (arith, digits_few d few)

time_few : (q : Fraction) → IsPlanTime q → length (fraction_text q) ≤ 39
unfolding fraction_text bottom_text
time_few q h =
    let p = parts_of q h in
    subst (λ z. length (signed_decimal z ++ bottom_text q.bottom) ≤ 39) (sym p.top_is)
    (omega (arith, length-append (decimal p.top) (bottom_text q.bottom), digits_few p.top p.top_few, bottom_few q.bottom p.bottom_few (q.bottom == 1)))

spaced_few : (ws : List (List ℕ)) → All IsPlainName ws → length (spaced ws) ≤ 65 * length ws
spaced_few [] all = omega arith
spaced_few (w ∷ ws) all =
    let h = All-head IsPlainName w ws all in
    omega (arith, length-append w (spaced ws), h.name.within, spaced_few ws (All-tail IsPlainName w ws all))

call_short : (c : TimedCall) → IsPlainCall c → HasFewArguments c → IsShort (call_bytes c)
call_short c h few =
    omega (
      arith,
      length-append (fraction_text c.0) (58 ∷ 32 ∷ label_of c.1.name c.1.args),
      length-append c.1.name (spaced c.1.args ++ 41 ∷ []),
      length-append (spaced c.1.args) (41 ∷ []),
      time_few c.0 h.time,
      h.name.name.within,
      spaced_few c.1.args h.args,
      few,
    )

last_short : (last : Fraction) → IsPlanTime last → IsShort (last_bytes last)
last_short last h = omega (arith, length-append (fraction_text last) (codes ": @end"), time_few last h)

pub have_room : (calls : List TimedCall) (last : Fraction) → All IsPlainCall calls → All HasFewArguments calls → IsPlanTime last → HasShortLines (written_plan calls last)
have_room [] last all few h =
    subst (All IsShort) (sym (last_lines last h)) (All-cons IsShort (last_bytes last) [] (last_short last h) (All-nil IsShort))
have_room (c ∷ cs) last all few h =
    let plain = All-head IsPlainCall c cs all in
    subst (All IsShort) (sym (more_lines c cs last plain))
    (All-cons IsShort (call_bytes c) (lines_of (written_plan cs last)) (call_short c plain (All-head HasFewArguments c cs few))
    (have_room cs last (All-tail IsPlainCall c cs all) (All-tail HasFewArguments c cs few) h))
