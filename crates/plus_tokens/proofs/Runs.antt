-- Runs of bytes at the front of a text: as many as pass a test, and blanks and comments.
use Rattle.std.proofs.Common.{◌≡◌, ◌⊎◌, ℕ, suc, ◌+◌, ◌<◌, Bool, true, false, List, [], ◌∷◌, ◌++◌, length, get_or, drop, refl, sym, ◌∙◌, ap, inl, inr, append_assoc, length-append, length-drop, add-zero, arith}
use Rattle.std.specs.Prelude.{◌==◌, slice_index}
use Rattle.std.specs.List.{prefix_len, list_all, concat}
use Rattle.std.proofs.lemmas.Bool.{and_parts, true≢false, eqb-true}
use Rattle.std.proofs.lemmas.List.{drop-drop, get_or-drop}
use Rattle.std.proofs.Math.Seq.{drop-append_seam}
use Rattle.plus_tokens.specs.Bytes.{is_blank, gap_len}
use Rattle.plus_tokens.specs.Spelling.{Each, begins, is_no_lf, IsBlank, IsComment, AreSpaces, IsGap}

-- a byte that passes is another than one that does not
pub apart : (p : ℕ → Bool) (c b : ℕ) → p c ≡ false → p b ≡ true → (b == c) ≡ false
apart p c b fails passes = at (b == c) refl where
  at : (t : Bool) → (b == c) ≡ t → (b == c) ≡ false
  at false e = e
  at true e = absurd (true≢false (sym passes ∙ ap p (eqb-true b c e) ∙ fails))

-- so it is no blank, where the blanks do not pass
pub no_blank : (p : ℕ → Bool) (b : ℕ) → p 32 ≡ false → p 9 ≡ false → p 13 ≡ false → p 10 ≡ false → p b ≡ true → is_blank b ≡ false
no_blank p b space tab cr lf passes = rw (apart p 32 b space passes, apart p 9 b tab passes, apart p 13 b cr passes, apart p 10 b lf passes) refl

-- as many bytes pass as stand in a run before one that does not
pub prefix_run : (p : ℕ → Bool) (run rest : List ℕ) → Each p run → begins p rest ≡ false → prefix_len p (run ++ rest) ≡ length run
prefix_run p [] [] all stop = refl
prefix_run p [] (b ∷ bs) all stop = rw stop refl
prefix_run p (x ∷ xs) rest all stop =
    let h = and_parts (p x) (list_all p xs) all in
    rw (h.0, prefix_run p xs rest h.1 stop) (omega arith)

-- a comment's inside and its LF
comment_len : (inside rest : List ℕ) → Each is_no_lf inside → gap_len true (inside ++ 10 ∷ rest) ≡ length inside + suc (gap_len false rest)
comment_len [] rest all = omega arith
comment_len (b ∷ bs) rest all =
    let h = and_parts (is_no_lf b) (list_all is_no_lf bs) all in
    rw h.0 (omega (arith, comment_len bs rest h.1))

pub space_len : (piece rest : List ℕ) → IsBlank piece ⊎ IsComment piece → gap_len false (piece ++ rest) ≡ length piece + gap_len false rest
space_len piece rest (inl blank) =
    let other : (blank.0 == 59) ≡ false = apart is_blank 59 blank.0 refl blank.1 in
    rw (blank.2, other, blank.1) (omega arith)
space_len piece rest (inr comment) =
    rw (comment.2, append_assoc comment.0 (10 ∷ []) rest)
    (omega (arith, comment_len comment.0 rest comment.1, length-append comment.0 (10 ∷ [])))

pub spaces_len : (pieces : List (List ℕ)) (rest : List ℕ) → AreSpaces pieces → gap_len false (concat pieces ++ rest) ≡ length (concat pieces) + gap_len false rest
spaces_len [] rest all = omega arith
spaces_len (piece ∷ pieces) rest all =
    rw append_assoc (omega (arith, space_len piece (concat pieces ++ rest) all.0, spaces_len pieces rest all.1, length-append piece (concat pieces)))

-- a gap before a byte that is neither a blank nor a `;`
pub gap_run : (gap : List ℕ) (b : ℕ) (rest : List ℕ) → IsGap gap → is_blank b ≡ false → (b == 59) ≡ false → gap_len false (gap ++ b ∷ rest) ≡ length gap
gap_run gap b rest is no_space no_comment =
    let stop : gap_len false (b ∷ rest) ≡ 0 = rw (no_comment, no_space) refl in
    rw is.2 (omega (arith, spaces_len is.0 (b ∷ rest) is.1, stop))

-- the byte at an offset, and what stands behind it
first_of_drop : (text : List ℕ) (at : ℕ) → slice_index text at ≡ get_or (drop at text) 0 0
first_of_drop text at = sym (get_or-drop at text 0 0 ∙ ap (λ n. get_or text n 0) (add-zero at))

pub head_at : (text : List ℕ) (at b : ℕ) (more : List ℕ) → drop at text ≡ b ∷ more → slice_index text at ≡ b
head_at text at b more e = first_of_drop text at ∙ ap (λ l. get_or l 0 0) e

-- what stands behind a run
pub behind : (text : List ℕ) (at : ℕ) (run more : List ℕ) → drop at text ≡ run ++ more → drop (at + length run) text ≡ more
behind text at run more e = sym (drop-drop (length run) at text) ∙ ap (drop (length run)) e ∙ drop-append_seam run more

-- whether the byte at an offset passes a test that 0 does not
pub begins_at : (p : ℕ → Bool) (text : List ℕ) (at : ℕ) (more : List ℕ) → p 0 ≡ false → drop at text ≡ more → p (slice_index text at) ≡ begins p more
begins_at p text at [] none e = ap p (first_of_drop text at ∙ ap (λ l. get_or l 0 0) e) ∙ none
begins_at p text at (b ∷ more) none e = ap p (head_at text at b more e)

-- an offset with bytes behind it is inside the text
pub inside_at : (text : List ℕ) (at b : ℕ) (more : List ℕ) → drop at text ≡ b ∷ more → at < length text
inside_at text at b more e = omega (arith, length-drop at text, ap length e)
