-- The token that is spelled first is the first token that is read.
use Rattle.std.proofs.Common.{◌≡◌, ℕ, ◌+◌, true, false, List, ◌∷◌, ◌++◌, length, drop, Some, Ok, refl, ◌∙◌, ap}
use Rattle.std.specs.Prelude.{nat_lt}
use Rattle.std.proofs.lemmas.Bool.{lt-ltb}
use Rattle.plus_tokens.specs.declared.token.Token.{Token}
use Rattle.plus_tokens.specs.Bytes.{gap_len}
use Rattle.plus_tokens.specs.First.{token_start, first_token, found as found_token}
use Rattle.plus_tokens.specs.Spelling.{IsFirst}
use Rattle.plus_tokens.proofs.Runs.{gap_run, behind, inside_at}
use Rattle.plus_tokens.proofs.Standing.{stands, IsSolid, is_solid}

pub found : (text : List ℕ) (from : ℕ) (t : Token) → IsFirst text from t → first_token text from ≡ Ok (Some t)
unfolding first_token
found text from t first =
    let s : IsSolid first.bytes = is_solid t.kind first.bytes first.spelled in
    let solid : first.bytes ++ first.rest ≡ s.first ∷ (s.others ++ first.rest) = ap (λ l. l ++ first.rest) s.parts in
    let start : token_start text from ≡ from + length first.gap =
    ap (λ l. from + gap_len false l) (first.parts ∙ ap (λ l. first.gap ++ l) solid)
    ∙ ap (λ n. from + n) (gap_run first.gap s.first (s.others ++ first.rest) first.is_gap s.no_blank s.no_comment) in
    let left : drop (from + length first.gap) text ≡ first.bytes ++ first.rest = behind text from first.gap (first.bytes ++ first.rest) first.parts in
    let inside : nat_lt (from + length first.gap) (length text) ≡ true = lt-ltb _ _ (inside_at text (from + length first.gap) s.first (s.others ++ first.rest) (left ∙ solid)) in
    rw (start, inside) (ap found_token (stands t.kind text (from + length first.gap) first.bytes first.rest first.spelled first.ends left)
    ∙ rw (← first.starts_at, ← first.ends_at) refl)

pub one : (text : List ℕ) (from : ℕ) (t u : Token) → IsFirst text from t → IsFirst text from u → t ≡ u
one text from t u first second = let e : first_token text from ≡ Ok (Some t) = found text from t first in let f : first_token text from ≡ Ok (Some u) = found text from u second in cc
