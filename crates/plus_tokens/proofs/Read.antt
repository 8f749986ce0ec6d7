-- The first token that is read is spelled there, and none is read in a gap.
use Rattle.std.proofs.Common.{◌≡◌, ℕ, ◌+◌, true, false, List, ◌++◌, length, drop, Some, None, Result, Ok, Err, refl, sym, ◌∙◌, ap, subst, length-drop, arith, ◌↔◌}
use Rattle.std.specs.Prelude.{nat_lt, slice_index}
use Rattle.std.proofs.lemmas.Bool.{lt-ltb, le-ltb}
use Rattle.plus_tokens.specs.declared.token.Token.{Token}
use Rattle.plus_tokens.specs.declared.token.LexFault.{LexFault}
use Rattle.plus_tokens.specs.Bytes.{gap_len}
use Rattle.plus_tokens.specs.First.{token_at, token_start, first_token, found as found_token}
use Rattle.plus_tokens.specs.Spelling.{IsGap, IsGapToEnd, IsFirst}
use Rattle.plus_tokens.proofs.Runs.{gap_run, head_at, behind, inside_at}
use Rattle.plus_tokens.proofs.Split.{Stops, Gapped, stopped, all_gap, gapped, gap_all}
use Rattle.plus_tokens.proofs.Stood.{IsStood, Stood, token_read}

-- where a gap goes to the end there is no token
at_the_end : (text : List ℕ) (from : ℕ) → gap_len false (drop from text) ≡ length (drop from text) → first_token text from ≡ Ok None
unfolding first_token
at_the_end text from all =
    let past : nat_lt (token_start text from) (length text) ≡ false = le-ltb (token_start text from) (length text) (omega (arith, all, length-drop from text)) in
    rw past refl

-- and else the token behind the gap is the answer
behind_gap : (text : List ℕ) (from : ℕ) (gap rest : List ℕ) → IsGap gap → drop from text ≡ gap ++ rest → Stops rest
    → first_token text from ≡ found_token (token_at text (from + length gap) (slice_index text (from + length gap)))
unfolding first_token
behind_gap text from gap rest is parts stops =
    let start : token_start text from ≡ from + length gap =
    ap (λ l. from + gap_len false l) (parts ∙ ap (λ l. gap ++ l) stops.spelled)
    ∙ ap (λ n. from + n) (gap_run gap stops.first stops.others is stops.no_blank stops.no_comment) in
    let inside : nat_lt (from + length gap) (length text) ≡ true =
    lt-ltb _ _ (inside_at text (from + length gap) stops.first stops.others (behind text from gap rest parts ∙ stops.spelled)) in
    rw (start, inside) refl

some_found : (r : Result Token LexFault) → found_token r ≡ Ok None → ⊥
some_found (Ok t) e = cc
some_found (Err f) e = cc

pub none : (text : List ℕ) (from : ℕ) → (first_token text from ≡ Ok None) ↔ IsGapToEnd (drop from text)
none text from = (λ e. at (gapped (drop from text)) e, λ is. at_the_end text from (gap_all (drop from text) is)) where
  at : Gapped (drop from text) → first_token text from ≡ Ok None → IsGapToEnd (drop from text)
  at (stopped gap rest is parts stops) e = absurd (some_found _ (sym (behind_gap text from gap rest is parts stops) ∙ e))
  at (all_gap is all) e = is

-- a token that is read behind the gap is the first that is spelled
from_stood : (text : List ℕ) (from : ℕ) (t : Token) (gap : List ℕ) → IsGap gap → (drop from text ≡ gap ++ drop (from + length gap) text)
    → IsStood text (from + length gap) t → IsFirst text from t
from_stood text from t gap is parts s = record {
  gap = gap;
  bytes = s.bytes;
  rest = s.rest;
  parts = parts ∙ ap (λ l. gap ++ l) s.parts;
  is_gap = is;
  spelled = s.spelled;
  ends = s.ends;
  starts_at = s.starts_at;
  ends_at = s.ends_at ∙ ap (λ n. n + length s.bytes) (sym s.starts_at);
}

pub read : (text : List ℕ) (from : ℕ) (t : Token) → first_token text from ≡ Ok (Some t) → IsFirst text from t
read text from t e = at (gapped (drop from text)) where
  taken : (at : ℕ) (r : Result Token LexFault) → Stood text at r → found_token r ≡ Ok (Some t) → IsStood text at t
  taken at (Ok u) s is = let same : u ≡ t = cc in subst (IsStood text at) same s.fact
  taken at (Err f) s is = absurd cc

  at : Gapped (drop from text) → IsFirst text from t
  at (stopped gap rest is parts stops) =
      let left : drop (from + length gap) text ≡ rest = behind text from gap rest parts in
      let stood : Stood text (from + length gap) (token_at text (from + length gap) (slice_index text (from + length gap))) =
      rw (head_at text (from + length gap) stops.first stops.others (left ∙ stops.spelled)) (token_read text (from + length gap) stops.first stops.others (left ∙ stops.spelled)) in
      from_stood text from t gap is (parts ∙ ap (λ l. gap ++ l) (sym left))
      (taken (from + length gap) (token_at text (from + length gap) (slice_index text (from + length gap))) stood (sym (behind_gap text from gap rest is parts stops) ∙ e))
  at (all_gap is all) = absurd (let none : first_token text from ≡ Ok None = at_the_end text from all in let f : Ok None ≡ Ok (Some t) = sym none ∙ e in cc)
